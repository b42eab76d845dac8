pub mod Answers
pub mod Figures
pub mod Letters
