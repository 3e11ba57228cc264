pub mod KnownStops
pub mod KnownSplits
pub mod KnownFinds
pub mod KnownTests
mod NameLemmas
mod SymbolLemmas
mod Laws
mod FunctionLemmas
mod BoundaryLemmas
mod NumberLemmas
mod WordLemmas
mod BracketLemmas
mod LeftLemmas
mod ClosingLemmas
mod EnclosedLemmas
mod LongLemmas
mod RowLemmas
mod TokenLemmas
pub mod KnownLeads
pub mod KnownBlanks
mod FirstLemmas
mod ClosingTests
mod LongTests
mod FitLemmas
mod StageLemmas
pub mod KnownParts
pub mod KnownStages
pub mod KnownReading
pub mod KnownProper
pub mod KnownHeadings
mod TokenLaws
pub mod KnownLexing
mod ProperLemmas
pub mod KnownWords
mod CrossLemmas
mod OpeningLemmas
mod FrontLemmas
pub mod KnownKept
mod SymbolLaw
mod ContentLemmas
mod HeaderLaws
mod TakenLemmas
mod ReadLemmas
mod StopLemmas
