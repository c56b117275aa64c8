pub mod Events
pub mod Showing
pub mod Text
