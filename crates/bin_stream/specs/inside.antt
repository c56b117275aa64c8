-- What contracts within this crate cite. Of the public contracts only those of a decoder rest on it, by StandsFor. Each of their clauses
-- gives StandsFor or takes it, beginning with no bytes, so nothing that is defined here need be believed.
pub mod Register
pub mod Opcodes
pub mod Heads
pub mod Registers
pub mod Step
pub mod Pieces
pub mod Stages
pub mod Room
