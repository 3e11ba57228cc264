pub mod Callers
pub mod Says
pub mod Histories
pub mod Idle
pub mod Sent
pub mod Works
pub mod Worked
