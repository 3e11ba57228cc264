pub mod Edits
pub mod Faults
pub mod Kept
pub mod Offsets
pub use Rattle.pide_base.specs as pide_base_below
