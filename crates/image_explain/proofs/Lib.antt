-- boards of bits that are set one after the other
pub mod Boards
-- what places give, one place after the other, and lines of lists that are kept in another form
pub mod Gathered
-- tiles by their kinds: how wide they are, and where they are
pub mod TileKinds
-- the bits of a cell by the place of its function
pub mod CellPlaces
-- items that are there if a test passes
pub mod Ons
-- the places of links in lists by their tiles
pub mod Lists
-- texts that are written part by part
pub mod Texts
-- the first item of each key: items that are put into an index from the last to the first
pub mod Firsts
