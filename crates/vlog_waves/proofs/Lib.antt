-- identifiers, digit by digit
pub mod Identifiers
-- texts that are made line by line
pub mod Texts
-- the lines of variables and of their values
pub mod Cuts
-- how many bytes lines have
pub mod Room
-- the variables that items declare
pub mod Declared
-- values as they are kept
pub mod Alike
-- runs whose changes are dumped
pub mod Tracing
-- the lines before the first event
pub mod Beginning
-- worked values of the definitions
pub mod Worked
