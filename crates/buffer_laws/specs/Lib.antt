pub mod Known
pub mod Fitting
pub use Rattle.buffer_rules.specs as buffer_rules_below
