pub mod Looking
pub mod Found
pub mod Owners
pub mod Unique
