pub mod Closings
mod Endings
mod Laws
mod Lines
mod ReadBack
mod Whole
mod Items
