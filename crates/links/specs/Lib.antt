pub mod Chosen
pub mod Limits
pub mod Links
pub mod Piles
pub mod Laws
