pub mod Areas
pub mod Blocks
pub mod Phases
pub mod Rests
pub mod Shown
