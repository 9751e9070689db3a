pub mod Occ
