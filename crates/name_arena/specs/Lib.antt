pub mod Blocks
pub mod Names
pub mod Buckets
