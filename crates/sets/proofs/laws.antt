pub mod Sets
pub mod Exactly
pub mod Sent
