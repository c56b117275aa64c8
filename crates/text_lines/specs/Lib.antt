pub mod Lines
pub mod Words
pub mod Written
pub mod Numbers
pub mod Pieces
pub mod Feeding
