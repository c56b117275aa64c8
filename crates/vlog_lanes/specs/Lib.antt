pub mod Lanes
pub mod Showing
