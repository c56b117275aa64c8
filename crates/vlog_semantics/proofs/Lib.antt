-- registers with an asynchronous set or reset, in well-formed modules
pub mod AtOnce
-- operands over slots have the values of their atoms
pub mod Atoms
-- what the names of a module have at the start
pub mod Beginning
-- cells have what operands read, and wires over them get their values
pub mod Cells
-- clocked items over slots do what the items of the module do
pub mod Clocked
-- edges over slots are edges over names
pub mod Edges
-- entries of a module, and the values in slots that they stand for
pub mod Entering
-- the slots of an entry's names
pub mod EntrySlots
-- lists that are filled place by place
pub mod Filling
-- what names with their values hold
pub mod Holding
-- the values of names by their slots
pub mod Lookups
-- reads and writes of memories over slots do what the items of the module do
pub mod Memories
-- the number of bits, and the bits of a number
pub mod Numbers
-- outputs over slots have the values of their atoms
pub mod Outputs
-- what slots have is what the entry has
pub mod Reading
-- registers that have settled stay
pub mod Resting
-- runs that go on
pub mod Runs
-- registers with an asynchronous set or reset, over slots and by their names
pub mod Settling
-- what slots show is what follows in the module
pub mod Showing
-- items over slots, one after the other
pub mod Stepping
-- settling twice is settling once
pub mod Twice
-- the waves of a module, by the edges of its plan
pub mod Waves
-- wires over slots
pub mod Wires
