-- the entry of a lane after calls
pub mod Called
