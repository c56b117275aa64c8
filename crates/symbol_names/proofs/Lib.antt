-- the classes of nets of a design
pub mod Classes
-- names that are wanted one after the other
pub mod Wanted
