-- The write order, if there is one, is the one that the function gives
pub mod Order
-- A module that runs as a fabric has the lines of the fabric
pub mod Lines
-- The cause of a refusal is the fault that it tells
pub mod Causes
-- the texts that are taken if a pin file comes first
pub mod NamedIntakes
