-- names as keys
pub mod Keys
-- what a set of names has
pub mod Sets
