pub mod BitList
pub mod Rows
pub mod Cut
pub mod inside
