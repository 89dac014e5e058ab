pub mod Scripts
pub mod Operators
