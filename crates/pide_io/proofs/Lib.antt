mod Left
mod Decided
