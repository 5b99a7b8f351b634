pub mod Columns
pub mod Told
