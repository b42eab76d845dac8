pub mod Gaps
pub mod Quiet
pub mod Fed
pub mod Cutting
pub mod Ramp
pub mod Theorems
pub mod Unique
