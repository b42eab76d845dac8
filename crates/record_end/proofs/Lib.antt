pub mod Given
pub mod Unique
