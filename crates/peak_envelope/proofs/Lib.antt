pub mod Turns
pub mod Passing
pub mod Answered
pub mod Unique
