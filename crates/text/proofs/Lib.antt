pub mod Unique
pub mod Laws
pub mod Parts
