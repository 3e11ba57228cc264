pub mod Trying
pub mod Texts
pub mod Sheets
pub mod Updates
pub mod Numbers
pub mod Cuts
pub mod Nodes
pub mod Preparing
pub mod Examples
pub mod Worked
pub mod Refused
pub use Rattle.message_values.specs as message_values_below
