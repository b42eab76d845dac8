pub mod HalfWidth
pub mod Root
