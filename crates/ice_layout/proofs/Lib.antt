pub mod HeaderLaws
pub mod HeaderRows
mod SubLaws
pub mod SuperLaws
