pub mod Reading
pub mod Steps
pub mod Checked
pub mod Writing
