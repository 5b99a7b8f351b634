pub mod Info
pub mod Atomic
pub mod Told
pub mod Placed
