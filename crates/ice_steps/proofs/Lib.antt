pub mod Recovers
pub mod Counts
pub mod Lengths
pub mod Quotas
pub mod SubLaws
pub mod Keeps
mod Still
pub mod Takes
pub mod Made
pub mod Walks
mod Others
mod Sets
pub mod Files
mod Rows
pub mod Losses
pub mod Fresh
pub mod Cuts
pub mod Stays
pub mod Needs
pub mod Costs
pub mod Chains
