mod Texts
mod Faults
pub mod Prefixes
