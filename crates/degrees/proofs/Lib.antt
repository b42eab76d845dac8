pub mod Sizes
pub mod Forms
pub mod Parts
pub mod Signs
pub mod Unique
pub mod Thousandths
