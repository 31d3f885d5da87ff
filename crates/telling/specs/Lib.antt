pub mod Telling
pub mod Parts
