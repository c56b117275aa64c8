pub mod Names
pub mod Rights
pub mod Written
pub mod Matching
pub mod Law
