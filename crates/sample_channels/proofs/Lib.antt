pub mod Moments
pub mod Marks
pub mod Quiet
pub mod Range
pub mod Named
pub mod Blocks
pub mod Unique
