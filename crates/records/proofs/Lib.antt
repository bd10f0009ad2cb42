pub mod Unique
pub mod Fits
pub mod Searching
pub mod Putting
pub mod Values
