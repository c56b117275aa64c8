-- the two kinds of steps
pub mod StepKinds
-- bits of words with a bit for each of sixty-four lanes
pub mod Bits
-- marks on wires, and what writes and sweeps leave
pub mod Marked
-- the bits of a lane
pub mod Lanes
-- what flip-flops over cells do in a lane
pub mod Flipped
-- lists of which one is changed, and lanes one after the other
pub mod Lists
-- what a lane has once clocked items have acted
pub mod Stored
-- wires rise, and read only what comes before
pub mod Order
-- the roots of cells, after wires that only copy became aliases of what they copy
pub mod Joining
-- items over cells do what they do over bits and words
pub mod Operands
-- what an event gives the cells that aren't wires'
pub mod Sources
-- wires that have their values show what the wires of the text have
pub mod Wired
-- the wires of a module are in order
pub mod Modules
-- cells show what bits and words become at an event
pub mod Passed
-- what cells show after an event, and at the start
pub mod Following
-- lists that grow by what each item of another gives
pub mod Filled
-- the bits of a word in sixteen cells
pub mod Words
-- the lists of the wires on which cells bear
pub mod Listed
-- the cells of the bits of inputs and wires
pub mod Slots
-- what the cells of a lane have, and what a lane shows after a call
pub mod Boards
-- lists that get the items of others, one after the other
pub mod Merged
-- an event changes no more than the plan has items
pub mod Rooms
-- the cells of the flip-flops of a step
pub mod Over
-- what writes of values, and sweeps over wires, do in a lane
pub mod Steps
-- what a call leaves in a lane, half by half
pub mod Calls
-- the inputs and registers of a module have names of their own
pub mod Apart
-- what a lane shows after waves
pub mod Waves
-- what a board has at the start
pub mod First
-- flip-flops that come to be watched
pub mod Placed
-- flip-flops that are watched: when one leaves its register as it is
pub mod FlipGates
-- what is watched
pub mod Watched
