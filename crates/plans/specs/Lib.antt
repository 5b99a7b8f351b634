pub mod Plans
pub mod Access
pub mod Seamless
