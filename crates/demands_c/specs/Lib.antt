pub mod Header
pub mod History
