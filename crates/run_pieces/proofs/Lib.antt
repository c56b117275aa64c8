-- what was written of a text
pub mod Sent
