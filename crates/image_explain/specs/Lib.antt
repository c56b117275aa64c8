pub mod Cells
pub mod Items
pub mod Inside
pub mod Explained
pub mod Known
pub mod Keys
