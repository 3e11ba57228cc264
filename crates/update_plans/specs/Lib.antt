pub mod Cancelled
pub mod Alive
pub mod Beside
pub mod Rows
pub mod Sights
pub mod Begun
pub mod Steps
