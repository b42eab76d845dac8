pub mod Library
pub mod Unique
