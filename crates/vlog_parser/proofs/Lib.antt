-- the names of PORTS, token by token
pub mod Turns
-- items one after another: what a step makes of them
pub mod ItemSteps
-- declarations of ports one after another
pub mod PortSteps
-- the outcome of a text, after its header
pub mod Outcomes
-- names and words of memories as keys
pub mod NameKeys
-- the names of values: those of the first value, and those of the values after it
pub mod ValuesAfter
-- how wires read names: what is kept of one name, and what of all
pub mod WireReadings
-- names that are added stand for the scope with what they declare, read and assign
pub mod Entering
-- what is said of a text by its outcome, and by the modules that it spells, is the same
pub mod Decided
