pub mod Groups
pub mod Largest
pub mod Machine
pub mod Runs
pub mod Step
pub mod OneSign
pub mod Peaks
pub mod Meaning
