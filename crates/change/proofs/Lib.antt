pub mod laws
pub mod Logs
