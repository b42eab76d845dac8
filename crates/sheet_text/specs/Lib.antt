pub mod Sheet
pub mod Cut
pub mod Pieces
