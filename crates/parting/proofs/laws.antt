pub mod Front
pub mod Parting
pub mod Lengths
pub mod Refusals
