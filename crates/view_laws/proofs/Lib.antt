mod Own
mod Holding
mod Turns
mod Begins
mod Ends
mod Works
mod Right
mod Counts
mod Takers
mod Losses
pub mod KnownHanded
