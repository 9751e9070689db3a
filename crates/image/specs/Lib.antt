pub mod Rows
pub mod Image
