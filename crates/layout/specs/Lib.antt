pub mod Numbers
pub mod Layout
pub mod Lengths
