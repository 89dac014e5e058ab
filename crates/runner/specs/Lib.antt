pub mod Answers
pub mod Begin
pub mod Run
pub mod Calls
pub mod Stops
