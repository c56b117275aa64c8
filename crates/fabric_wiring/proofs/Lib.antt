-- one driver more that is entered, and what is told at the end
pub mod Passed
-- the drivers of a fabric from those that are kept
pub mod Same
-- the driver of a class, and the nets that it reads
pub mod Drives
-- the ends of chains, found along the write order
pub mod Following
-- what lists have that are made of others
pub mod Members
-- a class at which a chain ends as at a register has a driver
pub mod RegisterEnds
-- the clock nets of what values are computed from
pub mod ClockNets
-- rows and marks of the classes of a fabric
pub mod ReadRows
-- what the first tile of a grid gives that gives something
pub mod Grid
-- the first of some users in the order of tiles, with one more
pub mod Sooner
-- the first user whose clock comes from logic is the first fault of the clocks of a fabric
pub mod Clocked
-- a net that an input of a table reads
pub mod Signals
