pub mod Packing
pub mod Tables
pub mod Told
pub mod Facts
