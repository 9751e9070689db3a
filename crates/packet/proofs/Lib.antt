pub mod laws
pub mod Written
