pub mod Spelling
pub mod Assigned
pub mod Edited
pub mod Marked
pub mod Reported
pub mod Cancelled
pub mod Removed
pub mod Worked
pub mod Works
pub mod Runs
pub mod Questions
pub use Rattle.prover_core.specs as prover_core_below
