pub mod Finisher
pub mod Still
