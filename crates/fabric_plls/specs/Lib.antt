pub mod Tiles
pub mod Plls
