pub mod Listing
pub mod Findings
pub mod Excluded
pub mod Verdict
pub mod Calls
pub mod Price
