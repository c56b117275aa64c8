-- lists in the order of a key, and what is gathered of them
pub mod Ordered
-- what is kept of lists by tests, and how many pass
pub mod Kept
-- used cells, used RAMs and ports by their tiles
pub mod Placed
-- each mark stands in one tile
pub mod Standing
-- sums over the grid
pub mod Sums
-- global networks and what drives them
pub mod Networks
-- the counts of a plan are those of icebox_stat
pub mod Counting
-- marks and counts of links by their tiles
pub mod ByTiles
-- marks and links are at places of the grid
pub mod Near
