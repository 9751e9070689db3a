pub mod Exactly
pub mod Made
pub mod Statuses
