pub mod laws
pub mod Promises
