-- numbers that are made bit by bit, the highest first
pub mod Bits
