pub mod laws
pub mod Responses
