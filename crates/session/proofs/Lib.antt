pub mod laws
pub mod Tests
pub mod Clears
