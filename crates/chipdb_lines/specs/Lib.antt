pub mod Words
pub mod Statements
pub mod Items
pub mod Spans
pub mod Kept
