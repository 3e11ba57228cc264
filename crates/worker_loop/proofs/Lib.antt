pub mod KnownTurns
pub mod KnownHeld
pub mod KnownRounds
mod Writes
pub mod KnownWorkers
pub mod KnownGathered
