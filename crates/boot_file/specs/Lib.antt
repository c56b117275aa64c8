pub mod BootFile
pub mod Refusals
pub mod Headers
pub mod Parts
pub mod Meaning
pub mod Faults
pub mod Reading
pub mod Joined
