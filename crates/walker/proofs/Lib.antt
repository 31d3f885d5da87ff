pub mod Hits
pub mod Signed
pub mod Totals
pub mod Around
pub mod Told
pub mod Walked
pub mod Cases
