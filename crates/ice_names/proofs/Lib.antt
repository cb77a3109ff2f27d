pub mod TextLaws
mod ByteLaws
mod RowLaws
mod TableLaws
mod RouteLaws
mod Examples
