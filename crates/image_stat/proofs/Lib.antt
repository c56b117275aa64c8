-- the counts are the counts of a database and an image, one by one
pub mod Counted
-- bits that are 1: of a byte, and of a plane
pub mod Ones
-- links that are on
pub mod Links
-- the faults of links, PLLs, pins and RAMs are the faults of counting
pub mod Refused
