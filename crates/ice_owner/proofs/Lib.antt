mod Held
mod Kept
mod MarkLaws
mod Gathering
mod Filters
mod Entries
mod Reading
pub mod Laws
