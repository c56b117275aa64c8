pub mod About
pub mod Explained
