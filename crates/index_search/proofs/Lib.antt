-- laws of tests, values and lists at all places below a bound
pub mod Places
-- what a search says if it finds nothing, or something
pub mod Found
-- lists that places give, one after the other
pub mod Gathered
