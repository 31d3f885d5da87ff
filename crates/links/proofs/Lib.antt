pub mod Seeks
pub mod Hits
pub mod Stores
pub mod Walks
