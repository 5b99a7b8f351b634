pub mod Lists
pub mod Tags
pub mod Rows
pub mod Candidates
pub mod Merging
pub mod Plan
pub mod Serving
