pub mod KnownMarks
pub mod KnownNesting
pub mod KnownRebuilt
pub mod KnownBuilding
pub mod KnownPieces
pub mod KnownMerged
mod Answering
mod Attributes
mod Builders
mod Cuts
mod Depths
mod Fit
mod Joining
mod Pieces
mod Progress
mod Settled
mod Spelled
mod Spelt
mod Tags
mod Written
