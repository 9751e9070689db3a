pub mod Rows
pub mod Image
pub mod Stores
pub mod Typed
