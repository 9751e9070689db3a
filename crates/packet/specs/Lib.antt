pub mod Packet
pub mod Conditions
