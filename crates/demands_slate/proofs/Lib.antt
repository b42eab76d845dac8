pub mod Slate
pub mod Shown
