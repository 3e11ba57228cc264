pub mod LongReplies
pub mod Heard
pub mod HeardOn
pub mod Looks
pub mod Resting
pub mod Halts
pub mod Laws
pub mod Joins
