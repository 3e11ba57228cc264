pub mod KnownMeaning
pub mod KnownArguments
pub mod KnownFormulas
pub mod KnownInstance
mod PointLemmas
pub mod KnownTruth
pub mod KnownAbsent
