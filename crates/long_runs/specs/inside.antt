-- Definitions that only contracts inside this crate cite.
pub mod Names
pub mod Printing
pub mod Values
