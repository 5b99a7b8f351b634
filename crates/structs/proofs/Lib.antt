pub mod Marked
pub mod Accepted
