pub mod Field
pub mod Told
pub mod Form
pub mod Texts
pub mod Parts
pub mod Fault
pub mod Column
pub mod Line
