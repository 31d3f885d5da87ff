pub mod Walks
pub mod Firsts
pub mod Counts
pub mod Gives
pub mod Chains
