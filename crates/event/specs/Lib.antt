pub mod Letters
pub mod Lines
pub mod Events
pub mod Showing
