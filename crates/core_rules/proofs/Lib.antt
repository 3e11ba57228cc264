pub mod KnownNumbers
pub mod KnownEnds
pub mod KnownGreatest
pub mod KnownParts
pub mod KnownStays
mod Tables
mod HomedRows
mod Made
mod KeptRows
mod MadePrints
mod SameCommands
mod NodeMade
mod Facts
mod Heads
pub mod KnownPlaces
mod ImportAliases
mod AliasesByKey
pub mod KnownKeys
pub mod KnownCommands
mod Sound
mod BeforeNode
mod TipNode
mod TipKept
mod WantedImports
mod Progress
mod LastWithin
mod GivenNode
mod StepNode
mod Step
mod NewVersion
mod SoundDoc
mod SettingsBy
mod RunAgree
mod ScratchStep
mod ScratchDone
mod FromScratchLaw
mod ShownLaw
mod CoreLaw
mod Holders
mod TakingOrder
pub mod KnownFirst
mod FirstReady
mod FirstLaw
mod NotCancelled
mod CancelledLaw
pub mod KnownMarks
mod RowEvals
pub mod KnownStuck
mod Blocked
mod RestLaw
mod SettledLaw
mod AloneLaw
mod TipLaw
mod LiveAssigns
mod Left
mod UpdateNot
mod AssignedRows
mod EvalParts
mod LiveWithin
mod LegalExample
mod HandedSources
mod RowSources
mod HomesLaw
mod BegunParts
mod OneName
mod PlacedOnce
pub mod KnownNamedRows
