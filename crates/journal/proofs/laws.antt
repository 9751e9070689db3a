pub mod Bodies
pub mod Ends
pub mod Says
