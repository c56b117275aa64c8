-- what the walks over a block share
pub mod Blocks
-- names stay when more is written
pub mod Kept
-- places in their buckets
pub mod Places
