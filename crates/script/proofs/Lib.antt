pub mod Turns
pub mod Limits
pub mod Whole
pub mod Throughout
pub mod Sayings
pub mod Cases
