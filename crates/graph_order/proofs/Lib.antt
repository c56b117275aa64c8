-- numbers in lists, and that a graph has at most one write order
pub mod OneOrder
-- a node passes the test for cycles exactly if it lies on one
pub mod Cycles
-- a graph without a cycle has a write order
pub mod Ordered
-- if a graph has a write order, its nodes have exactly one value each, whatever their rules are
pub mod Settled
-- graphs that say the same have the same write orders and cycles
pub mod Alike
-- places of numbers in lists
pub mod Lists
-- one node more is written
pub mod Written
-- nodes are written one by one until none can be: all are written if there is a write order, and some node lies on a cycle if there
-- is none
pub mod Whole
-- rows, of which one gets a number more
pub mod Rows
-- if there is a write order, and only driven nodes read any, no node lies on a cycle
pub mod Open
-- what holds of each number of a list
pub mod Each
-- a search along rows goes on
pub mod Trails
-- a node that a search doesn't come back to, or that reads none of its own level, lies on no cycle
pub mod Closed
