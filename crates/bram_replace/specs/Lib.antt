pub mod HexText
pub mod Collected
pub mod Columns
pub mod Packed
pub mod ReadModes
pub mod Replaced
pub mod Rams
pub mod Passed
