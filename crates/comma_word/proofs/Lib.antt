pub mod Plain
pub mod Unique
pub mod Dial
pub mod Turn
pub mod Shown
pub mod Bytes
pub mod Row
pub mod Form
