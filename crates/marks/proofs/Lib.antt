pub mod laws
pub mod Seen
