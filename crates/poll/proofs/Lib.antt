pub mod laws
pub mod Bytes
pub mod Replied
