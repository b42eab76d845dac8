pub mod First
pub mod Places
pub mod Scan
pub mod Timed
pub mod Unique
