-- the register holds the sum of powers
pub mod Powers
-- rows that follow one another in a plane are a plane of their own
pub mod Runs
-- the first command of bytes: an allowed one is read as it is spelled, and bytes without a fault begin with an allowed one
pub mod OneCommand
-- commands that may stand one after the other, by recursion on them
pub mod Allowed
-- commands read one after the other: allowed ones as they are spelled, and back
pub mod ManyCommands
-- what stands before the preamble, the preamble, and what stands after it
pub mod PreamblePlace
-- if a wake-up is allowed, data have fixed a device
pub mod DeviceKnown
-- the layout of a device is one for it
pub mod Laid
-- each input has exactly one of the two, an image or a fault, and only one: that which the small program gives
pub mod Decided
-- what holds after one command more
pub mod OneMore
-- numbers of payloads
pub mod Payloads
-- pieces of a front, and those that are lines of a comment
pub mod Fronts
-- a command in bytes, and what registers hold after it
pub mod Steps
-- what commands draw into the planes
pub mod Drawn
-- a command that was entered, or what is wrong with it
pub mod Entered
-- commands that are read one after the other
pub mod ReadSoFar
-- the definitions at small values, worked out by hand or known from outside
mod KnownValues
-- the definitions at small streams, worked out by hand
mod Worked
-- the commands of an image's canonical bytes
pub mod CanonicalCommands
-- the check value of bits followed by their own check value is 0
pub mod CheckLaw
-- bytes enter the register by tables
pub mod Tables
-- the preamble stands first after the canonical front
pub mod FrontPlace
-- the canonical comment reads back as itself, and no preamble begins in it
pub mod CommentBack
-- the planes that the canonical commands give are those that were written
pub mod PlanesBack
-- the canonical commands are allowed
pub mod CanonicalAllowed
-- the canonical bytes of an image spell that image
pub mod RoundTrip
-- parts of a stream that are written one after the other are the canonical bytes
pub mod Assembled
-- what is wrong with a command stays wrong when bytes follow, unless it is that the input ends
pub mod Settled
-- the first preamble of bytes that others follow
pub mod FrontGrown
-- what a decoder keeps, as commands are taken and bytes follow
pub mod Stages
