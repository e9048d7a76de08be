pub mod Faults
pub mod Runs
pub mod Lanes
pub mod Logs
