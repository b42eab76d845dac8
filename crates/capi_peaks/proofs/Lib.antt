pub mod Fits
pub mod Bounds
pub mod States
pub mod Cut
pub mod Unique
