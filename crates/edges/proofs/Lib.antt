pub mod Groups
pub mod Regroups
pub mod Views
