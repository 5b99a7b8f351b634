pub mod Levels
pub mod Found
pub mod Considered
pub mod Answers
pub mod Seen
