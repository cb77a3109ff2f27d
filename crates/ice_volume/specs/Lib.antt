pub mod Cells
pub mod Volumes
pub mod Rows
pub mod Lines
pub mod Orders
pub mod Targets
pub mod Told
pub mod Sessions
