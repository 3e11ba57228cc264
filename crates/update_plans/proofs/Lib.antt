mod Members
mod Loops
mod Named
mod BesideRows
mod DroppedAre
mod Visible
mod SightsSee
mod SightsAre
pub mod KnownCancelled
mod AliveAre
mod BegunAre
mod Stood
pub mod KnownVisible
