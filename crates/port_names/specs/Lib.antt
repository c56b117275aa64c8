pub mod Renamed
pub mod Fresh
pub mod Law
pub mod Listed
pub mod Named
pub mod Matching
pub mod NamedLaw
