pub mod Choice
pub mod Unit
pub mod Detector
