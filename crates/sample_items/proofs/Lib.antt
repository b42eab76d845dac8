pub mod Ranges
pub mod Unique
