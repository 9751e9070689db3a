pub mod laws
pub mod Finding
pub mod Taking
pub mod Marking
