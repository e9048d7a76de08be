pub mod Groups
pub mod Laid
pub mod Spelt
pub mod Texts
pub mod Writers
