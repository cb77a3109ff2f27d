pub mod Memory
pub mod Fill
pub mod Crash
pub mod Record
pub mod MemHostView
pub mod MuteView
