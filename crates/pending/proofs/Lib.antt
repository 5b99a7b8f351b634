pub mod Closing
pub mod Copying
pub mod Flags
pub mod Merging
