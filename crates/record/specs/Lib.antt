pub mod Record
pub mod Widths
