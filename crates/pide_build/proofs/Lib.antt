mod KeptStates
mod AllDone
mod Nothing
mod BatchSteps
mod Gathered
mod BuiltRounds
mod AllBatches
mod Whole
mod Handing
pub mod KnownBegins
pub mod KnownCut
mod Making
mod Written
mod Kept
mod Nodes
mod Opened
mod Came
mod Builds
mod Rounds
mod Cuts
mod Joined
mod Steps
mod Beside
mod BatchParts
