pub mod Excess
pub mod Tables
pub mod Verdict
pub mod Unique
pub mod Values
