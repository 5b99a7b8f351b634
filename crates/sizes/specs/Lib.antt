pub mod Sizes
pub mod Told
