pub mod Down
pub mod Line
pub mod Files
pub mod Gathering
pub mod Readings
pub mod Steps
