-- Definitions that only contracts inside this crate cite.
pub mod Declared
pub mod Tracing
pub mod Values
