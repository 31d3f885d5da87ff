pub mod Filing
pub mod Turns
pub mod Served
pub mod Load
pub mod RoundTrip
