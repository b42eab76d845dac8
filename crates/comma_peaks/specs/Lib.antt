pub mod Timed
pub mod Judged
