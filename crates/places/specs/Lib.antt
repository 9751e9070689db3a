pub mod Reasons
pub mod Places
pub mod Faults
