-- blanks at the end of a line
pub mod Blanks
-- a text cut at its first byte that passes a test, as an end of a line or a separator of words
pub mod Cuts
-- decimal numbers as they are written, and read again
pub mod Decimals
-- what was taken and what is kept of a text that comes in pieces
pub mod Fronts
-- a number at the front of a text, digit by digit
pub mod Leading
-- numbers of at most nine digits, and the numbers that words write
pub mod Numbers
-- words and the separators that part them
pub mod Spaced
-- texts that LF ends, and the lines of a text that comes in pieces
pub mod WholeLines
-- the lines of a text, a line at a time, and of a text of lines
pub mod Written
-- the definitions at small texts, worked out by hand
mod Worked
