pub mod Bytes
pub mod Tables
pub mod Rows
pub mod Loads
pub mod Files
pub mod Written
pub mod Accepted
