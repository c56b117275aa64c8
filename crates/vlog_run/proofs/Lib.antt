-- lists of events, line by line
pub mod EventLines
-- what a runner's only lane has
pub mod OneLane
-- what a runner that shows an entry has
pub mod Reading
-- the text of runs that go on
pub mod Texts
-- worked values of the definitions
pub mod Worked
