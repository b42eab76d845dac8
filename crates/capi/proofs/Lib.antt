pub mod Codes
pub mod Placed
pub mod States
pub mod Unique
pub mod Written
