pub mod Plain
pub mod Dial
pub mod Word
pub mod Form
