-- the definitions at texts that are known from outside
mod Worked
-- lists made from a function of the place
pub mod Made
-- columns that are equal, and columns that are all different
pub mod Same
-- columns as four numbers are equal exactly if their bits are
pub mod Packing
-- words of hexadecimal digits, one after the other
pub mod HexWords
-- the lines of a file of memory words, one after the other
pub mod HexLines
-- words kept as one list of bits
pub mod Memory
-- the columns of a file, one after the other: the first index of each, and which are repeated
pub mod Repeats
-- the statement of a RAM in a text that can be read, and the tiles that it names
pub mod Statements
-- the order in which a RAM keeps the memory of a read mode
pub mod Orders
-- the lines and the bits of a RAM
pub mod Rows
-- how often a column is found: there is room for the count of each
pub mod Rams
-- the bits of a RAM, written one after the other
pub mod Putting
-- a text that can be read, with its RAMs replaced line by line
pub mod Steps
-- lines that are skipped up to the next RAM
pub mod Passed
