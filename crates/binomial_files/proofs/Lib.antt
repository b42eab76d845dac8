pub mod Few
pub mod Anywhere
pub mod Unique
