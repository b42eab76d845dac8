pub mod Unique
pub mod Anywhere
