pub mod Same
pub mod Calls
