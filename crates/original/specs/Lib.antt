pub mod Std
pub mod Rust
pub mod Iterators
pub mod Recorded
