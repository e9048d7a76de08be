pub mod Faults
pub mod Fields
pub mod Heads
pub mod Names
pub mod Records
