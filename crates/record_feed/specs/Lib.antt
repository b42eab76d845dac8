pub mod Gap
pub mod Fits
pub mod Answers
pub mod Pieces
