-- planes of banks, and the bits at their places
pub mod BankBits
-- an image by its bits
pub mod Bits
-- images in which a tile or a word of a RAM was written
pub mod Changed
-- images that gain the bits of a number
pub mod Gained
-- images that gain bits, by any test of them: none, one, or one gain after the other
pub mod Gains
-- the set extra bits, place after place
pub mod InOrder
-- listed bits against those of a number
pub mod Listed
-- lists in order: what places give, and that two with the same items are one
pub mod Lists
-- rows that are made from the bit of each column and row, and their words
pub mod Made
-- planes in which the places of tiles are marked
pub mod Marked
-- the places of the bits of tiles, by tests and by facts
pub mod Owned
-- planes that are made from the bits of their places
pub mod PlanesFrom
-- runs of bits, read and written as words
pub mod RunBits
-- the set bits that are no tile's, as a list
pub mod SetExtras
-- images in planes of their device's sizes
pub mod Sizes
-- numbers with the bits of others at other places, and rows of tiles that gain them
pub mod Spread
-- how many columns tiles have, and that their bits lie apart
pub mod TileColumns
-- words whose bits are turned, the last first
pub mod Turned
-- bits that are written one after the other
pub mod Written
