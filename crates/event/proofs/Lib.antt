pub mod Printing
pub mod Matches
pub mod Unique
pub mod Values
