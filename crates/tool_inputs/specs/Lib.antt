pub mod Commands
pub mod Faults
pub mod Layouts
pub mod Databases
pub mod Images
pub mod DesignInput
pub mod Appended
pub mod Outcomes
