mod Totals
pub mod KnownLost
