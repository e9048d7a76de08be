pub mod Bidding
pub mod Seats
pub mod Places
pub mod Steps
