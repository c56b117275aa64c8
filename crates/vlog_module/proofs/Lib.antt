-- modules that grow item by item
pub mod Begun
