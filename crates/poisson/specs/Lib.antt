pub mod Chances
pub mod Fractions
pub mod Rows
pub mod Series
pub mod Tables
