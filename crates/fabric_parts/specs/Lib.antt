pub mod Globals
pub mod PinRecords
pub mod PinFaults
pub mod Rams
pub mod RamFaults
