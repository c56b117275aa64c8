-- the bits that the tiles and the extra bits of a canonical text set are those of the image
pub mod BitsRead
-- a text that means an image has each of its bits as a character, a digit or a statement
pub mod Characters
-- the comment at the beginning of a canonical text is read as it was written
pub mod CommentRead
-- the device and the settings of a canonical text, and which statements never follow them
pub mod HeadRead
-- lines as pieces: a statement with the lines that belong to it
pub mod PieceRead
-- pieces that are read one after the other: what the lines so far say is what their pieces say
pub mod PiecesRead
-- the pieces that make up the canonical text of an image, and that each is right after the pieces before it
pub mod PiecesWritten
-- the canonical text of an image means that image
pub mod RoundTrip
-- eight bytes as a number, and what it says of them
pub mod Packed
-- rows of tiles as numbers, column c being worth 2 ^ c
pub mod RowNumbers
-- a line whose first eight bytes are read apart from the eights at its end, so that some bytes are read twice
pub mod Overlaps
-- the first line of a text, if LF is found right after the bytes of a row or of digits
pub mod FirstLines
-- the rows of a tile and the lines of a RAM are read as they were written
pub mod RowsRead
-- the statements that a text is written with say what they are to say
pub mod Spelled
-- the bits that the contents of RAMs in a canonical text set are those of the image
pub mod WordsRead
-- a line of 64 hexadecimal digits is one that decodes into 32 bytes
pub mod MemoryLines
-- a statement of a net's name with one space before its number
pub mod SymbolLines
-- statements by their keywords
pub mod Spellings
-- the flags of a set of tiles
pub mod TileSets
-- bits that are set one after the other
pub mod Gains
-- the comment, with one line more
pub mod CommentSteps
-- how deep a line is among the sixteen of a statement
pub mod Depths
-- lines by their first byte
pub mod Dotted
-- from what is kept to what a text means, and to its first faulty line
pub mod Ends
-- what the statements give, with one line more
pub mod Given
-- what the reader keeps is what the lines that it has read say
pub mod HasRead
-- the bits of an image, with one line more
pub mod ImageSteps
-- what is kept after a line is what the lines say with that line
pub mod LineSteps
-- lines that are taken one after the other, and what holds after them
pub mod LinesRead
-- the lines of a text that comes in pieces: what the lines so far give, and what they say of the text
pub mod Feeding
-- what is wrong with a line follows from what is kept
pub mod Refusals
-- the names that a text gives to nets are those of its lines, each read by itself
pub mod Symbols
-- what is kept after a statement is what the lines say with it
pub mod StatementSteps
-- the definitions at small texts, worked out by hand
mod Worked
-- texts that are written piece by piece
pub mod Pieces
-- texts that are written to a sink piece by piece
pub mod RowsSent
-- lines that name nets, taken one after the other
pub mod NameLines
-- lines in their usual form, taken one after the other
pub mod PlainLines
-- which lines of a text that can be read are the statements of RAMs, and which lines stand below them
pub mod RamLines
-- a text that can be read has few RAMs: each stands at another place of the grid
pub mod RamPlaces
