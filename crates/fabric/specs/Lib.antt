pub mod Kept
pub mod Design
pub mod Faults
pub mod Buffers
pub mod Causes
pub mod Clocks
