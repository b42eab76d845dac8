pub mod Answered
pub mod Records
pub mod Relations
pub mod Unique
