-- A tool with its help
pub mod CommandLines
-- What arguments ask a tool for
mod Outcomes
-- What a task appends to standard output
pub mod Appended
-- Tools that may read a layout file, and what they need
pub mod UnderLayouts
-- What holds of a database that is read
pub mod Databases
-- A chip database, and one or two images, that came in pieces, and the answer of a tool for them
pub mod DesignInputs
-- The layout of an image that is read
pub mod ImageLayouts
