pub mod Typed
pub mod Logs
pub mod Made
pub mod Landing
pub mod Entry
pub mod Links
