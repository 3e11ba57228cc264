pub mod Contents
pub mod Answers
pub mod Cancels
pub mod Looks
pub mod Makes
pub use Rattle.keeping_rules.specs as keeping_rules_below
pub use Rattle.prover_core.specs as prover_core_below
pub use Rattle.keeping_rules.specs.session_replies_below as session_replies_below
