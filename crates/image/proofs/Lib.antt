pub mod Served
pub mod Copies
pub mod RoundTrip
pub mod Cases
