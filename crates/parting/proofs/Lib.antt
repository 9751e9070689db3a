pub mod laws
pub mod Agreeing
pub mod Told
