pub mod Blanks
pub mod Identifier
pub mod Longest
pub mod Pieces
pub mod Members
