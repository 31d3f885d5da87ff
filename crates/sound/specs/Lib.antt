pub mod Sound
pub mod Check
pub mod Answer
pub mod Kept
pub mod Parts
