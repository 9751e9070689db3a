pub mod laws
pub mod Leaving
