pub mod Exit
pub mod Faults
pub mod Ids
pub mod Moves
pub mod NodeName
pub mod Questions
pub mod Limits
