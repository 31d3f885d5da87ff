pub mod Script
pub mod Parts
