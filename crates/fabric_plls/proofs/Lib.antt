-- lines and PLLs, as they are kept and as the database says them
pub mod Kept
-- the first tile of a list
pub mod Firsts
