mod CrossingParts
mod CrossingProofs
pub mod Crossing
mod StepLemmas
