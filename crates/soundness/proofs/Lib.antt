pub mod Calls
pub mod Examples
pub mod Judge
pub mod Soundness
pub mod Verdict
