pub mod KnownPieces
pub mod KnownOrders
pub mod KnownKinds
mod Exact
pub mod KnownNumbers
mod Ordered
mod Sorts
mod Words
mod Written
mod OrderLemmas
mod InsertLemmas
mod CrossLemmas
mod InnermostLemmas
mod SearchLemmas
mod StandLemmas
mod BoundLemmas
