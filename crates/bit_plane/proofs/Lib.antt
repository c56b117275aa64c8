-- bytes and the bits that they are
pub mod Bytes
-- words whose bits are exchanged in pairs
pub mod Exchanges
-- what a change or a reading of a plane's flat bits means for its rows
pub mod Flats
-- words that gain the bits of a number
pub mod Gained
-- rows of bits, their bits one by one, and the flat list of all their bits
pub mod Grids
-- what is written into a plane's words, and read from them, as bits of its rows
pub mod Kept
-- the bits of several words
pub mod Packed
-- parts of the bits of a word
pub mod Parts
-- a part placed in a whole
pub mod Places
-- bytes of a stream, eight at once
pub mod Streams
-- the table of bytes that are reversed
mod Table
-- the rows of a tile, each the bits of a word
pub mod TileRows
-- the two orders of bits: a number whose bits are reversed
pub mod Turned
-- words and the bits that they are, the lowest first
pub mod Words
-- the definitions at values that are small enough to be worked out by hand
mod Worked
-- rows that are made from the bit of each column and row
pub mod Made
