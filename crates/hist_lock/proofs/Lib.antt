mod Entries
mod Seats
mod Kept
mod Tickets
mod Turns
mod Appends
mod Sights
mod Splits
mod Joins
mod Bounds
pub mod KnownJoinings
pub mod KnownOwn
