pub mod Lookups
mod Slots
mod Found
mod Telling
mod Entries
mod Asking
mod Mounting
mod Routing
mod Aiming
mod Sited
mod Sessions
mod Refusing
mod Changing
mod TableOrders
mod Counting
mod Planned
mod Making
mod Growing
mod TableLines
mod GroupLines
pub mod StandLaws
mod Attaching
mod Copies
mod Finishing
mod Listing
