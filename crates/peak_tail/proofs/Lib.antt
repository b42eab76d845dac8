pub mod Bad
pub mod Order
pub mod Slack
pub mod Summing
pub mod Unique
