pub mod Geometry
pub mod Headers
pub mod Subs
pub mod Supers
