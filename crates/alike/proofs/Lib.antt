pub mod Buckets
pub mod Chaining
pub mod Seen
pub mod Types
