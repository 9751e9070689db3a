pub mod Walks
pub mod Freeing
