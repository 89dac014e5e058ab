pub mod Limits
pub mod Ty
pub mod Record
pub mod Spellings
pub mod Code
pub mod Steps
pub mod Faults
