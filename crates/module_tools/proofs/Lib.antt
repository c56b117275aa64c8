-- The outcome of a text that spells a module, and of one that has a fault
mod Outcomes
-- all lines that are shown, as the text of a run
mod Plain
-- the last line of a run alone
mod LastLines
-- the needs of `vlogsweep`, as files that are loaded
mod Sweeps
