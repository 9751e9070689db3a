pub mod Session
pub mod Road
