pub mod Unique
pub mod Serves
