pub mod Laws
pub mod Every
pub mod Beside
