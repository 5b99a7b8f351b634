pub mod Access
pub mod Barring
pub mod Examples
pub mod Places
pub mod Rows
pub mod Round
pub mod Steps
pub mod TagPlaces
