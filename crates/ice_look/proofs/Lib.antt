pub mod EndLaws
pub mod Chains
pub mod Names
pub mod PlaceLaws
mod NodeLaws
mod BrokenLaws
pub mod LookLaws
mod HeightLaws
mod ListLaws
mod WithinLaws
pub mod FaultLaws
pub mod MapDamage
pub mod SoundLaws
