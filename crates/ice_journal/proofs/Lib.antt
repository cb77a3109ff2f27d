pub mod AreaLaws
mod JournalLaws
mod Loops
pub mod PhaseLaws
pub mod ReplayLaws
mod SetLaws
pub mod RestLaws
pub mod StandLaws
pub mod StepLaws
