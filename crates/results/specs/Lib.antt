pub mod Results
pub mod Statuses
pub mod Sorting
pub mod Told
pub mod Seamless
