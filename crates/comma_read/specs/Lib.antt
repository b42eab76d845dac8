pub mod Forms
pub mod Roll
pub mod Plain
pub mod Answers
pub mod Survey
pub mod Taken
