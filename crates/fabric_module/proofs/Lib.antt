-- bits as lists, and as the bits of numbers
pub mod Bits
-- lists of names with their values
pub mod Lists
-- narrow words: patterns that are moved down and up
pub mod Narrow
-- the sections of a written module, each by itself
pub mod Sections
-- items that change the values of names, each name by its own items
pub mod Fills
-- items that assign what they compute, each its own name
pub mod Computed
-- the ports of PLLs: names that are apart
pub mod Plls
-- the ports of a written module, inputs and outputs each by themselves
pub mod Ports
-- the right-hand side that is written for a driver has the driver's value, if pins, state and the wires that it reads have theirs
pub mod Rights
-- the wires, registers and outputs of a module once they have settled, if its inputs, registers and memories hold what the
-- fabric's pins are and what its state was before it settled
pub mod Settled
-- the start of a written module: registers are 0, and memories have the words of the image
pub mod Beginning
-- a clocked item of the module has its edge exactly if the fabric's user of the clock has one: at an event, and in a wave
pub mod Ticks
-- what registers and RAM ports become in the module, before registers settle, is what they become in the fabric, if items and users
-- have their edges together
pub mod Clocked
-- so an entry of the module after the items have taken effect holds the values of the fabric's entry after the users have taken theirs
pub mod Acted
-- the items on a clock are one to one with the fabric's users of it: as many have an edge, and as many are on a register
pub mod Waves
-- the run of the written module and the run of the fabric match after the start and after each event of each list
pub mod Headline
-- names with other numbers are apart, and those of parts of several kinds
pub mod Apart
-- what holds of the fabric that a database and an image configure: its names are apart, its RAMs have all their ports and start
-- words, and its drivers name parts that it has
pub mod Configured
-- if a database and an image aren't refused, each pad that drives a global network is an input pin
pub mod Pads
-- if a database and an image aren't refused, the module that is written for them runs as their fabric, and it is well-formed
pub mod Design
-- the law
pub mod IsFabric
-- the written modules of small fabrics, worked out by hand
pub mod Worked
-- the names of a written module are names, its ports are apart, and each of its outputs is assigned
pub mod Named
-- bytes that a name is made of are a name
pub mod NameBytes
-- modules that grow item by item: what each item leaves for those after it
pub mod Grown
-- the state that a written module declares may stand after its ports
pub mod Declared
-- what the items of a written module use is declared before them
pub mod Used
-- a register that a wire sets at once is read by its own driver's wire alone, and there but for the time in which that wire is 1
pub mod Readings
-- the wires of a written module may stand after its state, in the order of their classes
pub mod Wired
-- items that assign one name each may follow one another if their names are distinct; the assigned outputs of a written module
pub mod Assigned
-- the items of registers and RAM ports are allowed once what they use is declared and as long as what they assign isn't assigned yet
pub mod Ticking
-- the start words of a RAM may stand at the end of a written module
pub mod Starts
-- what stands before the wires, the outputs and the items of registers and RAM ports: the names that they use
pub mod Known
-- the outputs and the items of registers and RAM ports may stand after the wires
pub mod Clocks
-- each output of a written module is assigned
pub mod Complete
-- the written module of a fabric is well-formed
pub mod Whole
-- what a database and an image configure has names that are names, and tables and start words of 16 bits
pub mod Shapely
