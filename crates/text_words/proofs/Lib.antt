pub mod KnownIdentifiers
pub mod KnownFronts
pub mod KnownPieces
pub mod KnownLists
pub mod KnownMembers
pub mod KnownOptions
pub mod KnownFinds
