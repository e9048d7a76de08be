pub mod Plans
pub mod Writing
pub mod Reading
