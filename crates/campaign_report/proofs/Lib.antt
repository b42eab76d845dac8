pub mod Enough
pub mod Rounding
pub mod Sums
pub mod Texts
pub mod Unique
pub mod WholeCase
