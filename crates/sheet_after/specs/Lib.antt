pub mod After
pub mod Taking
