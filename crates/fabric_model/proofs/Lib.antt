-- the first item of a list that is made by joining lists, or place by place
pub mod Firsts
-- lists that grow by what each item of another list gives with its place
pub mod Numbered
-- joined nets and their classes
pub mod Joins
-- the value of each driver looks at no other nets than those that it reads
pub mod Facts
-- a fabric without two drivers of a class and without a cycle has, for each state and all values of its input pins, exactly one
-- list of net values that is consistent
pub mod OneValue
-- what a fabric is that has no fault
pub mod Taken
-- what a LUT does to a clock: its value, the net that it reads, and that it is the same whichever inputs the LUT reads
pub mod ClockLuts
-- the flags of inputs that can be 1 say which entries can occur
pub mod ClockPasses
-- wirings in which each class reads at least what it reads without a clock
pub mod Clocking
-- clock chains: the search finds the end of a chain, and a net has the value of the end of its chain
pub mod Chains
-- the fabric of a database whose lines name nets of the device has no net past their number
pub mod Within
-- what lists that are made from others contain
pub mod Contained
-- what inputs read is there
pub mod Signals
-- how a state settles: to settle twice is to settle once, and the values of nets don't see it
pub mod Settling
-- how many items of a list pass a test
pub mod Counted
-- edges: a net that keeps its bit has none, and the next state looks at those of users alone
pub mod Edges
-- what holds after an event: through its first step and its waves
pub mod Events
-- a fabric without a fault has exactly one run for each list of events
pub mod Runs
-- a used RAM in a narrow mode works as a memory of narrow words
pub mod NarrowMemories
-- the definitions at small databases and images, worked out by hand
pub mod Worked
-- classes of joined nets, one routing after the other
pub mod Joined
-- parents after a write
pub mod Trees
-- links that are on: by their bits, and one after the other
pub mod Setting
-- what is kept of the links that are on
pub mod Ending
-- what the places of links that are on say
pub mod Laws
-- lists over the tiles of a kind
pub mod InOrder
-- two lists whose items are alike, place by place
pub mod Paired
-- values of drivers are kept where no clock of what they are computed from has an edge
pub mod Kept
-- whichever inputs LUTs read, values, runs and clocks are the same
pub mod Alike
-- no wave is cut
pub mod Uncut
-- entries of LUTs by the bits of their words
pub mod Entries
-- the value of a LUT doesn't depend on an input that the LUT doesn't use
pub mod UsedInputs
-- what is found in lists that are made from others, and bits that are all set
pub mod Listed
-- nets and places that a database names are its device's
pub mod Nets
-- lists in which each item is distinct from all after it
pub mod Apart
-- no driver of a database and an image stands twice
pub mod Once
-- registers of pins, by their keys
pub mod Keys
-- the fault of PLLs and pins
pub mod PinsFault
