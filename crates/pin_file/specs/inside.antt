-- Definitions that only contracts within this crate use.
pub mod Reading
