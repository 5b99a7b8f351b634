pub mod Value
pub mod File
pub mod Alike
pub mod Told
pub mod Dig
pub mod Kinds
pub mod Seamless
