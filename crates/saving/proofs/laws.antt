pub mod Record
pub mod Forms
pub mod Base
pub mod Moves
pub mod Parts
