pub mod Says
pub mod Systems
pub mod Plans
pub mod Changes
pub mod Attaching
