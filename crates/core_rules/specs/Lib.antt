pub mod Numbered
pub mod Assigned
pub mod Settings
pub mod Parts
pub mod Standing
pub mod Doc
pub mod Ready
pub mod Stuck
pub mod Updates
pub mod Legal
pub mod Scratch
pub mod Shown
pub mod FromScratch
pub mod Sources
pub mod Placed
pub mod Alone
pub mod Small
pub mod Worked
pub mod WorkedNodes
pub mod WorkedVersions
pub use Rattle.exec_rules.specs as exec_rules_below
pub use Rattle.language.specs as language_below
