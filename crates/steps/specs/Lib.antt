pub mod Lanes
pub mod Seats
pub mod Steps
pub mod Laws
pub mod Desks
