pub mod Jobs
pub mod Runs
pub mod Questions
pub mod Fits
pub mod Worked
pub mod Inputs
pub mod Parts
