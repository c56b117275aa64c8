pub mod Lines
pub mod PortNames
pub mod Packages
pub mod Faults
pub mod Feeding
pub mod GivenNames
pub mod inside
