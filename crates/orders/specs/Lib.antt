pub mod Orders
pub mod Searches
pub mod Turns
pub mod Answers
pub mod Cycles
pub mod Marks
pub mod PairSets
pub mod Inputs
