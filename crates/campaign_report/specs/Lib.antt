pub mod Answers
pub mod Report
pub mod WholeCase
