pub mod Sound
pub mod Drafts
pub mod Turns
pub mod Accepted
pub mod Encoded
pub mod Places
pub mod Cycles
pub mod Repeated
