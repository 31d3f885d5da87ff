pub mod Laws
pub mod Ways
pub mod Kept
pub mod Sixes
