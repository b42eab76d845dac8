pub mod Exposure
pub mod Growth
pub mod Longer
pub mod Rows
pub mod Scaled
pub mod Table
pub mod Turn
pub mod Unique
