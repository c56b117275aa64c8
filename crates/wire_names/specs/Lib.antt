pub mod Lines
pub mod Names
pub mod Faults
pub mod Lists
pub mod Naming
pub mod Law
pub mod inside
