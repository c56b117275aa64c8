-- wires and names as entries of a map
pub mod Entries
-- names that a module declares, one after the other
pub mod Declaring
-- wires that get names
pub mod Giving
-- the lines of a list of names, taken one after the other, and the first that is faulty
pub mod Ends
-- the wires of a well-formed module have names
pub mod Wires
-- a list that has only names that are free has no fault
pub mod Free
-- the definitions at small lists, worked out by hand
mod Worked
