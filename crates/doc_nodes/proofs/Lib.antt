mod Counts
pub mod KnownRising
pub mod KnownFiltered
pub mod KnownSteps
mod RoundLemmas
pub mod KnownRounds
pub mod KnownOrdered
pub mod KnownNames
pub mod KnownPlaces
mod Lists
mod PrefixLemmas
mod NameLemmas
mod WantedLemmas
mod CleanFolds
mod FoldLemmas
mod OrderLaws
mod WantedLaws
mod PrefixLaws
mod TidyAliases
mod AliasLaws
pub mod KnownHeads
mod BlobNames
