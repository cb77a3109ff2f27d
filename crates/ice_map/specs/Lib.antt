pub mod Faults
pub mod Inodes
pub mod Maps
pub mod Own
pub mod Moves
pub mod Growth
