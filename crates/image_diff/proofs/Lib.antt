-- members of lists that are filtered or marked
pub mod Members
-- sets of lines, and looking lines up in them
pub mod LineSets
-- what is told of a tile where the images are exchanged
pub mod Told
-- which lines are told
mod Changes
-- rows of bits that differ
pub mod OtherBits
-- images in which no tile differs
pub mod OtherTiles
-- two images of which nothing is told
pub mod Alike
-- texts that are written part by part
pub mod Written
-- the definitions at small values, worked out by hand
mod Worked
