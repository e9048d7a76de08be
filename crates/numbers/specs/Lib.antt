pub mod Faults
pub mod Numbers
pub mod Spelling
pub mod Texts
pub mod Writers
