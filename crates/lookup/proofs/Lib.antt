pub mod Atomics
pub mod Paths
pub mod Placed
pub mod Plain
pub mod Types
pub mod Fronts
