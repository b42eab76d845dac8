pub mod Few
pub mod Room
pub mod Unique
