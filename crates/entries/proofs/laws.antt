pub mod ByTable
pub mod Placed
pub mod Next
pub mod Entries
pub mod Places
pub mod Ahead
