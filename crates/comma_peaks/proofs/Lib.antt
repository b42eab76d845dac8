pub mod Parts
pub mod Judges
pub mod Blocks
pub mod Handed
pub mod Files
pub mod Peaks
pub mod Unique
