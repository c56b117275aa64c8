pub mod Wiring
pub mod Alike
pub mod Rows
pub mod Ready
pub mod Search
pub mod Levels
