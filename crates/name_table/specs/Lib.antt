pub mod Words
pub mod Table
pub mod Steps
pub mod Laws
