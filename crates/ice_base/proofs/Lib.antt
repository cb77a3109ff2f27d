mod Counts
pub mod FieldLaws
pub mod Frame
pub mod Gives
pub mod Kept
pub mod Rests
pub mod LotLaws
pub mod SpareLaws
pub mod UsedLaws
pub mod CountLaws
pub mod PutsLaws
mod HomeLaws
mod MadeLaws
