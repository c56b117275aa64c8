pub mod Tools
pub mod Runs
pub mod Starts
