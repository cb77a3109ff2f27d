mod Planned
mod Past
mod Crashes
