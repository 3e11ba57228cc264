mod Lists
pub mod KnownSorted
mod Places
mod LentFinds
pub mod KnownFound
pub mod KnownAlike
mod United
mod Range
mod PlaceOf
