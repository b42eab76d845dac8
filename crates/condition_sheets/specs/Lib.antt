pub mod Report
pub mod Taking
