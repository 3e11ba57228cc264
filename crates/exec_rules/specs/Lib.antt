pub mod Keys
pub mod Kept
pub mod Rows
pub mod Homes
pub mod Assigning
pub mod Listed
pub mod Examples
pub mod Worked
