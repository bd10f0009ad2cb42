pub mod Numerals
pub mod Lines
pub mod Paste
pub mod Decimal
pub mod Unique
pub mod Values
