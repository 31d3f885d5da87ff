pub mod Placing
pub mod Complement
pub mod Words
