-- the arguments have exactly one answer
mod Answer
-- equal counts
mod SameCounts
-- events by their pins
mod PinEvents
-- an image is explained by a database for its device, and a design has such a database
mod Devices
-- the run of a design's module is the run of its fabric
mod Ran
-- what is counted while a module runs
mod Runs
-- the image of a generated design has the standard layout
mod StandardImage
-- the command line of `selfrun`: it is simple, and what is found in the arguments is the request
mod Words
