pub mod Cases
pub mod Laws
pub mod Unique
pub mod Answers
