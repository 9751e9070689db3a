pub mod Speaks
pub mod Why
