pub mod State
pub mod Machine
pub mod Types
pub mod Scripts
pub mod Still
pub mod Seen
