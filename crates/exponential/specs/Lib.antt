pub mod Exponential
pub mod Ours
pub mod Steps
pub mod Tables
