pub mod Settles
pub mod Demand1
pub mod Demand2
pub mod Demand3
pub mod Starred
pub mod Wish1
pub mod Wish1Cases
pub mod Wish6
