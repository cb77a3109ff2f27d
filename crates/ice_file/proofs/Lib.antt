pub mod ByteLaws
mod PieceLaws
pub mod WriteLaws
mod SetLaws
mod FileLaws
