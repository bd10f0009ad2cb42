pub mod Stored
pub mod Unique
pub mod Values
