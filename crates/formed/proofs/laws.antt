pub mod Formed
pub mod Thresholds
