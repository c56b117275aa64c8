-- what a fault of a target leaves
mod Deliveries
-- pieces that are written one after the other, up to one that is cut
mod Pieces
-- what a load gives, and why it stops
mod Loading
-- a layout file that is read before other needs
mod AfterLayout
-- what is loaded and reached of needs that have texts, where these are told
mod Reaching
-- from loading and delivering to what a run does
mod Outcomes
-- texts that are kept one after the other
mod Keeping
-- from what was made of the needs, and what became of it, to what a run does
mod Concluding
-- what all tools know of the tasks of their command lines
pub mod CommandLines
-- a run of a task is a run of an equal task
pub mod Same
