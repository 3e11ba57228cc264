pub mod Arguments
pub mod Gives
pub mod Texts
