pub mod laws
pub mod Calling
pub mod Orders
pub mod Packets
pub mod Searching
pub mod Trials
