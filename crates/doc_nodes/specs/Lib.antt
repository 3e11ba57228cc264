pub mod Rounds
pub mod Looks
pub mod Importers
pub mod Names
pub mod Imports
pub mod Graph
pub mod Graphs
pub mod Prefix
pub mod Wanted
pub mod Reach
pub mod Aliases
pub mod Lent
pub mod Known
pub mod Reached
pub mod HandedDown
pub mod Heads
pub mod Needs
pub use Rattle.outer_syntax.specs as outer_syntax_below
