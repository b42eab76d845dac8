pub mod Files
pub mod Adding
