pub mod Edges
pub mod Groups
pub mod Sorts
pub mod Tables
