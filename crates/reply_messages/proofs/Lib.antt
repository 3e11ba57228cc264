mod Messages
pub mod KnownNodes
mod Alike
mod Contents
mod Cuts
mod Elements
mod KindWords
mod Names
mod ReadNumbers
mod OneChunk
mod OneReply
mod Refusals
mod ReadReports
mod Spelled
mod Taking
mod TagSteps
mod Tags
mod ReadTold
