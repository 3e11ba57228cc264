pub mod Seen
pub mod Forms
pub mod Commands
