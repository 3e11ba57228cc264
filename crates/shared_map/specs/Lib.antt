pub mod Items
pub mod Pairs
pub mod Cuts
pub mod Changes
pub mod Lent
pub mod KeyCut
