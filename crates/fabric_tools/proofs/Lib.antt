-- What is told if nothing is counted
mod Counted
-- What is answered of equal images, and of others
mod Equal
-- What is told if nothing is drawn
mod Planned
