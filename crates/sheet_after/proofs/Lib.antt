pub mod Failing
pub mod Old
pub mod Anywhere
pub mod NextDay
pub mod Unique
pub mod Front
