pub mod Closing
pub mod Text
