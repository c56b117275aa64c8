-- Definitions that only contracts inside this crate cite.
pub mod Counting
pub mod Ends
pub mod Nesting
pub mod Reading
pub mod Cursors
