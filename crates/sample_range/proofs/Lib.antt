pub mod Bad
pub mod Unique
