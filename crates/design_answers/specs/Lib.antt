pub mod Faults
pub mod Lines
pub mod Order
pub mod Pins
pub mod PinRequests
pub mod Taken
