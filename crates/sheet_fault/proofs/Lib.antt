pub mod Few
pub mod Unique
