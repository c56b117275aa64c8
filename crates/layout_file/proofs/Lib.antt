-- what is known of numbers that aren't refused
pub mod AcceptedNumbers
-- layouts by their devices
pub mod ByDevice
-- the lines of a text, read one after the other, and the first that is faulty
pub mod Ends
-- what the reader keeps after a line
pub mod FieldSteps
-- what the reader keeps is what the lines before the next one give
pub mod LineSteps
-- the numbers of a line, read one after the other
pub mod ReadNumbers
-- sums of widths
pub mod ReadWidths
-- lines that are none of a layout file
pub mod RefusedLines
-- the definitions at small texts, worked out by hand
mod Worked
