pub mod Turns
pub mod Served
pub mod Spans
pub mod Loads
