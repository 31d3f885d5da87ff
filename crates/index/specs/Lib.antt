pub mod Index
pub mod Refusals
