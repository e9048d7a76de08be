pub mod Shapes
pub mod Turns
pub mod Results
pub mod Ways
pub mod Bits
pub mod Inputs
pub mod Joins
