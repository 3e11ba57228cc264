pub mod KeyLists
pub mod PairLists
pub mod KeptHeaders
mod DraftLemmas
mod NameSets
mod HeaderLemmas
pub mod KnownTelling
pub mod KnownEditSteps
mod MovedRanges
mod SheetLemmas
mod HeaderNodes
mod SheetCuts
pub mod KnownCommands
mod Joined
mod KeptSources
mod Spreading
mod LastReached
mod EqualRuns
mod SameLists
pub mod KnownTold
mod BareNodes
mod Places
mod CutLemmas
mod CutParts
mod CutSteps
mod CutPlaces
mod CutStart
mod CutHere
mod FirstDraft
mod StandingNodes
