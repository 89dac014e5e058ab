pub mod Text
pub mod Grammar
pub mod Token
pub mod Parse
pub mod Reads
pub mod Accepts
pub mod Places
pub mod Steps
