pub mod Bytes
pub mod Parts
pub mod Numbers
pub mod Printed
pub mod Calls
pub mod Within
