pub mod Reads
pub mod Session
pub mod Road
pub mod Watch
pub mod Forgotten
pub mod Timer
