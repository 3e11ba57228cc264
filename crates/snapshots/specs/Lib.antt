pub mod Converted
pub mod Gathered
pub mod Nested
pub mod Pending
pub mod Seen
