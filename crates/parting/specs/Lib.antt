pub mod Parting
pub mod Lines
