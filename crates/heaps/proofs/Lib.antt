pub mod Drains
pub mod Inserts
pub mod Orders
pub mod Sifts
