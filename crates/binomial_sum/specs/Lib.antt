pub mod Answers
pub mod Kept
pub mod Records
pub mod State
