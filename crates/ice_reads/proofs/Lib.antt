pub mod Frames
pub mod Focus
pub mod Steps
pub mod LookUps
pub mod Losses
pub mod Moves
pub mod Numbers
pub mod Sorted
mod Unique
pub mod Walks
mod Rests
pub mod Recovering
mod FreshBits
pub mod FreshLots
pub mod UsedCosts
