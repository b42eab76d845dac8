pub mod Telling
pub mod Entries
pub mod Pieces
pub mod Header
pub mod Request9
