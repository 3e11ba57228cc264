pub mod KnownSets
pub mod KnownFirst
pub mod KnownAssumptions
pub mod KnownFollows
mod SameLemmas
mod ListLemmas
mod FreshLemmas
mod SubgoalLemmas
mod FitLemmas
mod BlockLemmas
mod ScopeLemmas
mod TextLemmas
pub mod KnownDescribed
mod LocalLemmas
mod WorthLemmas
