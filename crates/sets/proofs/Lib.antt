pub mod laws
pub mod Stored
pub mod Reading
