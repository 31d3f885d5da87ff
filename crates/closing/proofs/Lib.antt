pub mod Closes
pub mod NodeOuts
pub mod Cases
pub mod Told
