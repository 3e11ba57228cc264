pub mod Entries
pub mod Known
pub mod Callers
pub mod Calls
pub mod Passes
pub mod Rule
pub mod Steps
