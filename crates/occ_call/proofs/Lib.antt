pub mod laws
pub mod Answering
