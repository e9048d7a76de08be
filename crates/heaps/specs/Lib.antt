pub mod Entries
pub mod Faults
pub mod Heaps
pub mod Orders
pub mod Keys
