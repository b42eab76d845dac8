pub mod Standing
pub mod Answers
