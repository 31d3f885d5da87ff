pub mod Parts
pub mod Find
