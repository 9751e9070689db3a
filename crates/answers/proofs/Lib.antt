pub mod Saying
pub mod Words
