pub mod Tables
pub mod Whole
