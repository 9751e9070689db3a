pub mod Sets
pub mod Conditions
