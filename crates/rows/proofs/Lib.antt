pub mod Served
pub mod Cases
