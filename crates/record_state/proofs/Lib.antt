pub mod Relations
pub mod Bounds
pub mod Opening
pub mod Times
pub mod Unique
