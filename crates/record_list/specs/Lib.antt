pub mod Walk
pub mod Pass
pub mod Answers
