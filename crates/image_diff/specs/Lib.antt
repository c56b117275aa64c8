pub mod Differences
pub mod Inside
pub mod Laws
