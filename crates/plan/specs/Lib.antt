pub mod Conditions
pub mod Plan
