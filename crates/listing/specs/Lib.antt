pub mod Letters
pub mod Limits
pub mod Steps
pub mod Listing
pub mod Calls
pub mod Matching
pub mod Parts
pub mod Faults
