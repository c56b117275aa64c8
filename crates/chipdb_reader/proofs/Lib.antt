-- the definitions at small texts, worked out by hand
mod Worked
-- look-ups in lists with one more element
pub mod Searches
-- what a call says that didn't fail, by the result that was made of its own
pub mod Outcomes
-- names with one more
pub mod TextSteps
-- names after one was looked for
pub mod TextChanges
-- lines of `.buffer` statements with one more
pub mod BufferSteps
-- nets with one more, or with one name more
pub mod NetSteps
-- nets after a change
pub mod NetChanges
-- PLLs after a change
pub mod PllChanges
-- tiles of PLLs in their order
pub mod PllTiles
-- numbers of at most nine digits
pub mod FewDigits
-- no two PLLs are at one tile, and what holds of their places
pub mod PllsApart
-- PLLs, one line further
pub mod PllSteps
-- devices, statements and blocks, one line further
pub mod BlockSteps
-- what is kept says the same when more names and more bits are kept
pub mod Grown
-- the reader keeps what the lines so far give, and one line more
pub mod Holds
-- lines below statements: what is kept after each, and that none is faulty that is taken
pub mod ItemSteps
-- lines of `.routing` and `.buffer`: what is kept after each, and which are faulty
pub mod LinkSteps
-- names of nets: what is kept after each line, and which are faulty
pub mod NameSteps
-- statements: what is kept after each, and which are faulty
pub mod StatementSteps
-- lines: what is kept after each, and which are faulty
pub mod LineSteps
-- the whole text: what is kept at its end, and its first faulty line
pub mod Ends
-- lines that are taken one after another
pub mod Feeding
-- a reader of pieces, by the clauses of its line feed
pub mod Fed
-- what is answered of the bytes of a source or a file
pub mod Sources
-- look-ups by ids find what look-ups by names would
pub mod Found
-- lines that say something name tiles, bits and nets that the device has
pub mod FitLines
-- what a text means names tiles, bits and nets that its device has
pub mod FitPlaces
