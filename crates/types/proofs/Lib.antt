pub mod Places
pub mod Linking
pub mod Noting
pub mod Telling
