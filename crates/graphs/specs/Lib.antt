pub mod Model
pub mod Graphs
pub mod Faults
pub mod Parts
pub mod Files
pub mod Drafts
pub mod Names
