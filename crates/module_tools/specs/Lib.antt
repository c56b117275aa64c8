pub mod Events
pub mod Faults
pub mod Laws
pub mod Vlogrun
pub mod Vlogsweep
