pub mod Pieces
pub mod Name
pub mod Strip
pub mod Range
pub mod Steps
pub mod Listing
pub mod Told
pub mod Left
