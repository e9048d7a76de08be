pub mod Tests
pub mod Finds
pub mod Reaches
pub mod Told
