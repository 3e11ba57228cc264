pub mod Texts
pub mod Messages
pub mod Asking
pub mod Summary
pub mod Tallies
