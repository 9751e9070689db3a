pub mod Logs
pub mod With
pub mod Change
