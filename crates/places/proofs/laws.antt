pub mod Below
pub mod Least
pub mod Exactly
