-- the names of outputs and registers
pub mod Kept
-- lines that are the same
pub mod Same
-- the values that lines have
pub mod Sights
-- names in a line
pub mod Heads
-- runs whose lines are made piece by piece
pub mod Printed
-- worked values of the definitions
pub mod Worked
-- all lines, without the names
pub mod Plain
-- runs whose lines go out piece by piece
pub mod Sent
