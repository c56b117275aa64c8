-- lines of digits are a file of memory words without a fault
pub mod HexLines
-- the digits and the lines of a draw
pub mod Drawn
-- the first draw that is taken
pub mod Chosen
