pub mod Bytes
pub mod Fixed
pub mod Spellings
pub mod Tokens
