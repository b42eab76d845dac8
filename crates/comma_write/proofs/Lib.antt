pub mod Puts
pub mod Back
pub mod Unique
