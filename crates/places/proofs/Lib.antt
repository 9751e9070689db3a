pub mod laws
pub mod Loops
