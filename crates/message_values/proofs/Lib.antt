mod AttributePieces
mod Bodies
mod Chunks
mod Faults
mod Filled
mod Inside
mod Merged
mod Texts
mod Whole
pub mod KnownEdits
pub mod KnownFaults
pub mod KnownFinds
pub mod KnownFound
pub mod KnownItems
pub mod KnownLent
pub mod KnownNumbers
pub mod KnownSteps
pub mod KnownTexts
pub mod KnownTrees
pub mod KnownVariants
pub mod KnownWords
pub mod KnownRefused
mod Asking
mod Encoded
mod MadeParts
mod Made
mod Messages
mod Telling
