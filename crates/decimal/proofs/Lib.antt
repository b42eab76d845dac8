pub mod Text
pub mod Reading
pub mod Leading
pub mod Ends
pub mod Rest
pub mod Lines
pub mod Unique
