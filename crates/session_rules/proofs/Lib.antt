pub mod KnownLooked
pub mod KnownScript
mod SoundSteps
mod Events
pub mod KnownHolding
pub mod KnownNamed
pub mod KnownWaited
pub mod KnownResting
pub mod KnownStays
pub mod KnownSeen
pub mod KnownExact
pub mod KnownLookedVersion
mod Until
mod Stripped
mod OneWay
mod Entries
mod Working
mod Ways
mod Stepped
mod Exists
mod Shows
mod GivenNode
mod GivenNodes
mod KeptPrints
mod Keeping
mod Covers
pub mod KnownLiveVersions
mod HeldParts
mod Worked
mod OpenParts
mod MadeParts
mod Reported
mod Unnumbered
mod SameTexts
mod Unmarked
mod Finished
mod Documents
mod Sessions
mod Kept
mod Histories
mod Reached
mod Reports
mod Settled
