pub mod Moves
pub mod Steps
pub mod Lists
pub mod Streams
pub mod Plain
pub mod inside
