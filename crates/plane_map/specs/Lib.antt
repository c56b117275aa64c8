pub mod DeviceWords
pub mod Devices
pub mod Inside
pub mod Layout
pub mod Runs
