pub mod Front
pub mod Pieces
pub mod Write
