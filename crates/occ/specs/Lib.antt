pub mod Open
pub mod Commands
pub mod Judge
pub mod Conditions
pub mod Statuses
