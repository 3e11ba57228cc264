pub mod KnownMoves
