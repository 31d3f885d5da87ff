pub mod Others
pub mod Turns
pub mod Follow
pub mod Emptying
pub mod Stripping
pub mod Headwise
pub mod Phases
