pub mod Laws
pub mod Put
pub mod Front
pub mod Runs
pub mod Anywhere
pub mod Unique
