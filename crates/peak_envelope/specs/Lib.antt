pub mod Step
pub mod Answers
