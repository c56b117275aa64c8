-- lists with their places, lists over tiles, and lists of parts of one length
pub mod Lists
-- a cause of the parts is the cause of the whole, if nothing before it is wrong
pub mod Refused
-- the buffers at the places of those that are on are the buffers that are on
pub mod Buffers
-- the words that are read for the RAMs of an image are their start words
pub mod StartWords
-- the parts that are found are those of the fabric, and what is kept of them is a design
pub mod Composed
-- the first of some faults has what it tells
pub mod Evidence
-- in each entry of a run the clocks follow their pins and registers
pub mod Clocked
