mod Added
mod Tidy
pub mod KnownRuns
pub mod KnownRanges
pub mod KnownCut
