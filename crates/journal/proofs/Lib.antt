pub mod laws
pub mod Spelled
pub mod Fields
pub mod Parts
pub mod Judging
