-- nets that are below a number of nets
pub mod Inside
-- nets that are set
pub mod CellsFound
-- cells and carry inputs by tile are those of the list of tiles
pub mod CellsListed
-- names of one net among all names
pub mod Named
-- what gives a global its value, and pins at pads
pub mod Sources
-- the pins of all io tiles
pub mod PinRecords
-- why pins aren't taken
pub mod PinsListed
-- the upper tile of a RAM
pub mod Upper
-- lists over used RAMs
pub mod RamsListed
