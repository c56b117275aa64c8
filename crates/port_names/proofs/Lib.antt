-- functions of names that keep names apart, and values under the new names
pub mod Apart
-- runs under other names
pub mod Runs
-- old and new names exchanged
pub mod Exchange
-- what items declare, read and assign under other names
pub mod Uses
-- well-formed modules under other names
pub mod Whole
-- each name that an item uses is declared
pub mod Declared
-- functions that give the names of a module the same new names
pub mod Agree
-- the names of what a module holds
pub mod Entries
-- what holds of a module whose names are exchanged by a fresh renaming
pub mod Laws
-- the new names that the code finds, and lists that are exchanged place by place
pub mod Given
-- names of a form of a module's own
pub mod Own
-- what a written module declares
pub mod DeclaredOwn
-- lists in which items are apart, and names that are looked up in them
pub mod Lists
-- a name with `_en` after it
pub mod After
-- the names that a pin file gives
pub mod PinFileNames
-- the renaming by a pin file is fresh
pub mod Fresh
-- entries under the new names
pub mod Shown
-- the law of the module whose ports have the names of a pin file
pub mod IsFabric
-- the module of a design with the names of a pin file
pub mod Written
-- worked values
mod Worked
-- the names by a pin file at three pins, worked out by hand
mod WorkedNamed
