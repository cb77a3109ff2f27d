pub mod Outcomes
pub mod Quotas
pub mod Makes
pub mod Writes
pub mod Removes
pub mod Renames
pub mod Calls
