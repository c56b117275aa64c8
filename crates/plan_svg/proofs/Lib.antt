-- the text of a name says the name
pub mod Said
-- how a reader goes through numbers, names and pieces
pub mod Reading
-- how it goes through the parts of a picture
pub mod Drawn
-- how it goes through the shapes, and through the texts of the legend
pub mod Shapes
pub mod Rows
-- how it goes through the legend
pub mod Legends
-- a picture draws its plan
pub mod Pictures
-- elements are at their places
pub mod Placed
-- places on a sheet lie as those on the chip
pub mod Sheets
