pub mod Follow
pub mod Pieces
