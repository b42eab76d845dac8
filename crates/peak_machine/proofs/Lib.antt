pub mod Come
pub mod Fits
pub mod Unique
