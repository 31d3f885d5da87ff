pub mod Loading
pub mod Calls
pub mod Parts
pub mod Load
