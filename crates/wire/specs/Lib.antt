pub mod Wire
pub mod Conditions
