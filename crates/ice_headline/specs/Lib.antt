pub mod Acknowledged
pub mod Later
pub mod Headline
