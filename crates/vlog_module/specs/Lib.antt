pub mod Maps
pub mod Names
pub mod Parts
pub mod Uses
pub mod WellFormed
