-- readings one after another
pub mod Steps
-- values of places
pub mod ValuesAt
-- the values that are read of a text are named
pub mod Named
-- items that are made of the values of their places
pub mod Made
