pub mod Line
pub mod Taking
pub mod Step
pub mod Pieces
