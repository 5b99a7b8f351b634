pub mod Places
pub mod Values
pub mod Finds
pub mod Passes
pub mod Standing
pub mod Accepting
pub mod Inside
pub mod Tabling
