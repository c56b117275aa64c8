pub mod Found
pub mod Readings
pub mod Named
