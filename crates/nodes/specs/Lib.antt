pub mod Reading
pub mod Lookup
pub mod Placed
pub mod Tabled
