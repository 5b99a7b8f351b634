pub mod Columns
pub mod Groups
pub mod Heads
pub mod Lent
pub mod Runs
