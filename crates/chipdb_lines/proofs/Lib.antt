-- bits that were added to a table one after another
pub mod TableBits
-- lists of a table after bits were added
pub mod TableLists
-- the number that values write, their first bit the lowest
pub mod Values
-- words that miss
pub mod Heads
-- values and a net with one space between them, and lines without a word
pub mod Choices
-- texts that begin with the two words of a choice
pub mod Missed
-- a name with one space before it and one between its numbers
pub mod Named
-- a statement of links with one space between its words
pub mod Headed
-- a bit's word at the front of others
pub mod OneBit
