pub mod Mailbox
pub mod Conditions
pub mod Statuses
