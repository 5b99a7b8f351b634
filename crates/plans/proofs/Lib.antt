pub mod Access
pub mod Examples
pub mod Keys
pub mod Pairs
pub mod Places
pub mod Round
pub mod Steps
pub mod Writes
