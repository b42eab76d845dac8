pub mod Cut
pub mod Quiet
pub mod Sides
pub mod Unique
