pub mod Noting
pub mod Steps
pub mod Walked
pub mod Unique
pub mod Ready
pub mod Underway
pub mod Answered
pub mod Heard
