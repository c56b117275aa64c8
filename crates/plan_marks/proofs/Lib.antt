-- what holds of the classes of marks
pub mod Classes
-- what a loop over places has gathered
pub mod Gathered
