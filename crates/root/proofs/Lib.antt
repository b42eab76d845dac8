pub mod First
pub mod HalfWidth
pub mod Rounding
pub mod Unique
