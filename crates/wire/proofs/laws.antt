pub mod Cases
pub mod Wire
pub mod Chains
pub mod Tables
pub mod Pairs
