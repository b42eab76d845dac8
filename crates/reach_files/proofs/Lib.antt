pub mod Opens
pub mod Few
pub mod Down
pub mod Keeping
pub mod Second
pub mod Anywhere
pub mod Cut
pub mod Unique
