pub mod Choice
pub mod Walk
pub mod Groups
pub mod Parting
