pub mod Cubes
pub mod Commands
pub mod Called
pub mod Wider
pub mod Mounting
pub mod Fresh
