pub mod Net
pub mod Rows
pub mod Answers
pub mod Parts
