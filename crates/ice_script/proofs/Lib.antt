pub mod Bounds
pub mod Kept
mod Refused
mod Tokens
