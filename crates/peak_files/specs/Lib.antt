pub mod Said
pub mod Passing
pub mod Reading
