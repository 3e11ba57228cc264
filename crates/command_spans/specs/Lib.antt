pub mod Spans
pub mod Cutting
pub mod CutTexts
pub mod Reparsing
pub mod Keeping
