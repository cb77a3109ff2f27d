pub mod Places
pub mod Ends
pub mod Broken
pub mod Heights
pub mod Outcomes
pub mod Stages
pub mod Listings
pub mod Calls
