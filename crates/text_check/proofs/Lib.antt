mod Alike
pub mod KnownOneNode
mod OneWalk
mod OneMarkup
