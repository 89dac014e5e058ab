pub mod Numbers
pub mod Cites
