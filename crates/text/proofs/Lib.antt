pub mod Runs
pub mod Fields
pub mod Cutting
pub mod Scanning
pub mod Values
pub mod Cases
pub mod Turned
