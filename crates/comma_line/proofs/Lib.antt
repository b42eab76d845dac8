pub mod At
pub mod Unique
