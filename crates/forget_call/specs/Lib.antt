pub mod Forget
