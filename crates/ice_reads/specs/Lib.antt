pub mod Tables
pub mod Reads
pub mod Recovers
pub mod Fresh
