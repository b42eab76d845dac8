pub mod Answered
pub mod Keeping
pub mod Records
pub mod Relations
pub mod Unique
