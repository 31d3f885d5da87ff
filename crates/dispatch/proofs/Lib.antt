pub mod Letters
pub mod Keeps
