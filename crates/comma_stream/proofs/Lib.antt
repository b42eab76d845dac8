pub mod Going
pub mod Pieces
pub mod Begun
pub mod Whole
pub mod Unique
