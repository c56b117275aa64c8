-- the parts of equal answers
pub mod Pairs
-- the definitions on small texts
pub mod Worked
-- tokens are equal if the test says so
pub mod Tokens
-- reading tokens that have to come next
pub mod Exact
-- values of the kinds that slots take, and slots of one token
pub mod ValueKinds
-- reading an atom
pub mod Atoms
-- slots one after another: what is read is what the values make, and what values make is read
pub mod SlotLists
-- values of the kinds that a form takes are the values of its item
pub mod Rebuilt
-- the form of an item is seen from its tokens
pub mod Shape
-- the names of an item's values are the names of the item
pub mod Uses
-- which form is read
pub mod Forms
-- the tokens of written tokens, whatever follows
pub mod Plain
-- the tokens of written bits, words and numbers
pub mod Digits
-- the tokens of what slots and values write are the tokens that they make
pub mod WrittenSlots
-- an item's tokens are read as the item, whatever follows
pub mod ItemRead
-- the items of a well-formed module are read without a fault
pub mod ItemsRead
-- the header and the declarations of the ports of a well-formed module are read without a fault
pub mod HeaderRead
-- a text that spells a module has that module for its outcome
pub mod Spelled
-- the printed text of a well-formed module is a spelling of it
pub mod PrintedTokens
-- the names of tokens are names, their words have 16 bits, and so have those of the values that are read
pub mod Sound
-- an item without a fault is allowed
pub mod Allowed
-- a text of which the outcome is a module spells the module
pub mod Whole
