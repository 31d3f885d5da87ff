pub mod Ends
pub mod Dropping
