-- the words of a line
pub mod LineSteps
-- names of ports, byte by byte
pub mod NameSteps
-- the places of pins that are kept, and names
pub mod PinSteps
-- the pins of a package, line by line
pub mod PackageSteps
-- the ports that lines give, one more at a time
pub mod PortSteps
-- the names of pins as they stand in the file
pub mod GivenSteps
-- lines taken one after the other, and the first that is faulty
pub mod Ends
-- names that can be used in a module
pub mod SafeNames
-- the definitions at small texts, worked out by hand
mod Worked
