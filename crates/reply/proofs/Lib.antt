pub mod Texts
pub mod Fitting
pub mod Cases
