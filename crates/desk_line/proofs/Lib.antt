pub mod Few
pub mod Put
pub mod Unique
