pub mod Hill
pub mod Fitting
pub mod Steps
