pub mod laws
pub mod Carrying
pub mod Marking
pub mod Watching
pub mod Standing
