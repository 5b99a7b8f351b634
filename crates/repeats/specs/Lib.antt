pub mod Repeats
pub mod Sorting
