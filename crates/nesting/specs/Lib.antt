pub mod Graph
pub mod Marks
pub mod Tables
