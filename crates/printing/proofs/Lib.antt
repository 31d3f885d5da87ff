pub mod Spelling
pub mod FromLeft
pub mod Putting
pub mod Signs
pub mod Powers
pub mod Fields
pub mod Numbering
