pub mod Answer
pub mod Examples
pub mod Naming
pub mod Neighbours
pub mod Numbers
pub mod Order
