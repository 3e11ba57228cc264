pub mod Stated
pub mod Tries
pub mod Ordered
pub mod Listing
