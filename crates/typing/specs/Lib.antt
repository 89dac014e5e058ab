pub mod Equations
pub mod Rules
pub mod Typings
pub mod Examples
