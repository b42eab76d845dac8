pub mod Answers
pub mod Figures
pub mod Reach
pub mod Steps
