pub mod Clean
pub mod Anywhere
pub mod Unique
