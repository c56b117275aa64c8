-- lines in which each `repeat` has its `end`
pub mod Nested
-- what a cursor has left to do
pub mod Turning
-- how many moves there are
pub mod Counts
-- what is kept of steps that are read
pub mod Kept
-- the faults of lists of events, line by line
pub mod Faults
-- worked values of the definitions
pub mod Worked
-- events that are given one after another
pub mod Given
-- the inputs of events are those of the module
pub mod Within
-- what a line says
pub mod Said
-- what a `repeat` and its `end` stand for
pub mod Unfolded
-- a line up to its first space, and after it
pub mod Pieces
-- a line of a plain list says the same
pub mod PlainLines
-- plain lists are lists of the long form
pub mod PlainLists
