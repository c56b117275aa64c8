pub mod Answers
pub mod Drafts
pub mod Headers
pub mod Steps
pub mod Kept
pub mod Scopes
pub mod Seen
pub mod Decided
