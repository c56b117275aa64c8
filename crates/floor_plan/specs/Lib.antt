pub mod Marks
pub mod Plans
pub mod Laws
pub mod ByTile
