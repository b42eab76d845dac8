pub mod Turn
pub mod Unique
