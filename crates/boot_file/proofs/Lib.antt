-- the first of some numbers in a row that passes a test
pub mod Found
-- images stand one after the other, and after the headers
pub mod Order
-- what the bytes of a boot file are, one image after the other
pub mod Bytes
-- places found one after the other, and what a check of numbers leaves
pub mod Placing
-- what holds of all numbers below a bound
pub mod Below
-- the addresses that entries name, each once
pub mod Named
-- where the part of an image ends
pub mod Ends
-- a fault of a bitstream lies within it
pub mod Offsets
-- what is answered if no fault is found
pub mod Clear
-- bytes mean a boot file, or have a fault
pub mod Decided
-- what a joined file has at its headers and images
pub mod JoinedBytes
-- a joined file means its images
pub mod JoinedMeaning
-- the definitions at two images of 3 bytes and of 1 byte, worked out by hand
mod Worked
-- what a small file means, worked out by hand
mod WorkedSplit
