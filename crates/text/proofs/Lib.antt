pub mod laws
pub mod Turns
pub mod Numbers
