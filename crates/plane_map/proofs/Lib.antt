-- one equality of devices, by the test and by the definition
pub mod Devices
-- lists whose entries are all different, by a test
pub mod Entries
-- how large a grid of tiles is, which places are in it, and how many columns of bits a tile has
pub mod Grids
-- what the tests of a layout say, and what the grids of the devices have
pub mod Layouts
-- bits of a tile as places within its column and its row of tiles, over any lists of the io tiles' columns and rows and any
-- widths, so long as the tests of the lists pass
pub mod Offsets
-- which bit of a tile lies at a place of the configuration planes
pub mod Owners
-- each bit of a tile lies in the planes, and no two at one place
pub mod Places
-- rows of tiles and words of RAMs as runs of bits, and which row of tiles lies in a row of bits
pub mod RowRuns
-- the runs in which the rows of a tile lie
pub mod RunPlaces
-- the standard layouts give no two bits one place
pub mod Standard
-- the columns of bits that the columns of tiles start at, as a list
pub mod Starts
-- columns of any widths, side by side: where each starts, and that no place lies in two of them
pub mod Widths
-- the words of the RAMs fill the RAM planes, each place once
pub mod Words
-- the definitions at places that are known from outside, and under layouts that differ from the standard one
mod Worked
