pub mod JournaledLaws
mod ListLaws
mod ThroughLaws
