pub mod Given
pub mod Letters
pub mod Only
pub mod Unique
