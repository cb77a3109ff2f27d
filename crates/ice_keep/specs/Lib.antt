pub mod Journaled
pub mod Through
