pub mod Edits
pub mod Plain
pub mod Chosen
pub mod Forms
