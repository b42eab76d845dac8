pub mod Unique
pub mod Small
