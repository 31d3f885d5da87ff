pub mod Laws
pub mod Front
pub mod Told
pub mod NetworkA
pub mod Vacant
pub mod Guards
