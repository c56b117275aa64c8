-- the tokens from an offset on
pub mod Cuts
-- every token has at least one byte, and lies within the text
pub mod Lengths
-- at each place the longest token is taken
pub mod Longest
-- bytes at places, and the first place that passes
pub mod Places
-- signs and reserved words, by their spellings
pub mod Spelled
-- the definition of tokens on small texts
pub mod Worked
