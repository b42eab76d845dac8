pub mod Few
pub mod Record
pub mod Anywhere
pub mod Unique
