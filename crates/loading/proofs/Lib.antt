pub mod Served
pub mod Vacated
