pub mod Database
pub mod Draws
pub mod Events
pub mod Image
pub mod Inside
pub mod Numbers
