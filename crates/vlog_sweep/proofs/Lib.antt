-- numbers with a bit for each lane
pub mod Bits
-- runs that go on
pub mod Runs
-- texts in parts
pub mod Texts
-- how many events are left
pub mod Left
-- what lanes show
pub mod Shown
-- lists before the first event
pub mod Begun
-- lanes that take their turns
pub mod ByTurns
-- the lists on their way
pub mod Going
