pub mod Files
pub mod Filing
