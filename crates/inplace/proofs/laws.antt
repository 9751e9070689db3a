pub mod InPlace
pub mod Marked
pub mod Silent
