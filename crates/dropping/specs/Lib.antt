pub mod Drop
pub mod Parts
