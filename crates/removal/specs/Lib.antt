pub mod Removal
pub mod Lists
pub mod Parts
