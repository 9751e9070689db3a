pub mod laws
pub mod Fields
pub mod Standing
