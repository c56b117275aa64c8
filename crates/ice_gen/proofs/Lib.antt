-- how many logic tiles and RAMs come before a place of the grid, place by place
pub mod Before
-- images that are filled bit by bit
pub mod Filled
-- the image of which all bits are set
pub mod Generated
-- which rows of the grid, and which tiles, give a net no name
pub mod Nameless
-- how long the text of the database is: each of a tile's names is one net's
pub mod Size
-- texts that are written part by part
pub mod Texts
