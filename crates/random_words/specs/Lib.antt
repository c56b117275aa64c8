pub mod Draws
pub mod Taken
