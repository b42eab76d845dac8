pub mod State
pub mod Answers
