pub mod CubeLaws
mod CallLaws
mod CommandLaws
mod MountLaws
mod FreshLoops
mod FreshLaws
pub mod FreshLots
mod WideBits
mod WideReads
mod WideLots
