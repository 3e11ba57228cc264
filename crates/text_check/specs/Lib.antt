pub mod OneText
pub mod Lines
pub mod Worked
pub mod Headings
