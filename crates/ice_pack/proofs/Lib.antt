-- packing and unpacking undo each other
pub mod BothWays
-- what a text configures has the layout of its device
pub mod Laid
