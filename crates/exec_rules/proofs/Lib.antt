pub mod KnownThere
pub mod KnownListed
pub mod KnownKept
pub mod KnownCounts
pub mod KnownNumbers
pub mod KnownGiven
mod KeptLaws
mod KeyLaws
mod RowParts
mod RowLaws
mod NumberLaws
