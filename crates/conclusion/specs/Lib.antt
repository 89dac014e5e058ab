pub mod Bytes
pub mod Tests
pub mod Finish
pub mod Reads
pub mod Written
pub mod Given
pub mod Narrow
pub mod Conclusion
