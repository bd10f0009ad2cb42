pub mod Edges
pub mod Widths
pub mod Registered
pub mod Flags
pub mod Wraps
pub mod Adding
pub mod Unique
pub mod Values
