pub mod Losses
pub mod Leaving
