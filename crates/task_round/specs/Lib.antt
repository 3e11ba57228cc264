pub mod Sharing
pub mod Rounds
pub mod Workers
pub mod Results
