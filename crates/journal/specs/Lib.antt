pub mod Bytes
pub mod Ways
pub mod Read
pub mod Add
