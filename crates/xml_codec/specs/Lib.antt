pub mod Data
pub mod Faults
pub mod Nested
