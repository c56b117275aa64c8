pub mod Table
pub mod Values
pub mod Layout
pub mod Items
pub mod Reading
pub mod Outcome
pub mod Printed
