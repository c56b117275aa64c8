-- tests that are joined by `and`, `or` and `if`
pub mod Tests
-- options that have no value
pub mod Options
-- numbers that are compared
pub mod Numbers
-- bits that are compared one by one
pub mod Bits
-- bytes that are compared
pub mod Bytes
-- lists that are joined, or made of another list item by item
pub mod Lists
-- the rest of a list after its first items are dropped
pub mod Cuts
-- the items of a list that grew at its end
pub mod Pushes
-- searches of a list, and of the numbers below a bound
pub mod Searches
