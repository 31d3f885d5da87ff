pub mod Links
pub mod Parts
