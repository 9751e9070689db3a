pub mod Least
pub mod Numbers
pub mod Orders
pub mod Refusals
