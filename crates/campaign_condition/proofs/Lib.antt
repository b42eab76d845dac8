pub mod Front
pub mod Judging
pub mod Looking
pub mod Theorems
pub mod Unique
pub mod Whole
pub mod Exactly
