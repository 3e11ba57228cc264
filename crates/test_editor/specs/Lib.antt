pub mod About
pub mod Tally
pub mod Tidy
pub mod Desk
pub mod Parity
pub mod Lengths
