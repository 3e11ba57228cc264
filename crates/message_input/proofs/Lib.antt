mod Decoding
pub mod KnownHalting
mod Pulling
mod Ends
pub mod KnownCompletes
