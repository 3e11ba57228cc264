pub mod Names
pub mod Search
pub mod TermText
pub mod Worked
pub use Rattle.proof_checks.specs as proof_checks_below
