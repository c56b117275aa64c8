-- what is kept of a design tells the drivers and the clocks of its fabric
pub mod Kept
-- what is read of nets, by their classes
pub mod Read
-- the parts of a design and what its drivers name are there
pub mod Within
-- one more item of a section
pub mod Steps
-- the module of a design is that of each fabric whose design is kept, and it is well-formed and runs as the fabric
pub mod Made
