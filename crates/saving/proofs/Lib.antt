pub mod laws
pub mod Reading
pub mod Holding
pub mod Writing
pub mod Calls
