pub mod Faults
pub mod Explain
pub mod Diff
pub mod Equal
pub mod Stat
pub mod Plan
pub mod Laws
