pub mod Fitting
pub mod Reading
pub mod Demand
