pub mod Marks
pub mod Last
pub mod Tested
