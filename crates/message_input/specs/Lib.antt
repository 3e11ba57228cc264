pub mod Answers
pub mod Causes
pub mod Counts
pub mod Inputs
pub mod Steps
