pub mod Packet
pub mod Exactly
