pub mod Variables
pub mod Waves
pub mod Sizes
pub mod Whole
pub mod inside
