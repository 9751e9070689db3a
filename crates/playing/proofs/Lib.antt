pub mod laws
pub mod Lines
pub mod Playing
