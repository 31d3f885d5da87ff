pub mod Steps
pub mod Sums
