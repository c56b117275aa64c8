pub mod Strands
pub mod Sweep
