pub mod Column
pub mod Refusals
pub mod Calls
pub mod Parts
