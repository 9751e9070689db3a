pub mod laws
pub mod Turns
