pub mod Words
pub mod Limit
pub mod Headline
pub mod Outcomes
pub mod Answered
pub mod Generated
pub mod Told
