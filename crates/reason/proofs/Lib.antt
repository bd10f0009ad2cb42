pub mod Truth
pub mod Unique
pub mod Values
