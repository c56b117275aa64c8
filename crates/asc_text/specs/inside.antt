-- What contracts within this crate cite, and no public one.
pub mod Keywords
pub mod TileSets
pub mod Gains
pub mod Reading
pub mod LinesTaken
pub mod Feeding
pub mod RowNumbers
pub mod Room
pub mod Symbols
