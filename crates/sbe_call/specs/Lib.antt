pub mod Sbe
