pub mod Largest
pub mod Levels
pub mod Visits
