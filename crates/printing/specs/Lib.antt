pub mod Bytes
pub mod Digits
pub mod Parts
