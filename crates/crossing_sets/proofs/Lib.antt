pub mod Rising
pub mod Walk
pub mod Parting
pub mod Starts
pub mod Fewer
