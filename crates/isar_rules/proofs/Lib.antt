pub mod KnownTried
pub mod KnownQuiet
mod Printing
mod Showing
mod Quantified
mod Tokens
mod Good
mod Citing
mod Spots
mod Clean
mod Keeping
pub mod KnownTidy
pub mod KnownPlaced
mod Checking
mod Forking
mod WorkedSources
