pub mod Lined
pub mod Drains
pub mod Pairs
pub mod Laws
pub mod Writes
