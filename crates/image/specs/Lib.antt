pub mod Calls
pub mod RoundTrip
