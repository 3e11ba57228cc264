mod Scanning
mod Headings
mod Fitting
mod Newlines
mod Counting
mod Cutting
pub mod KnownSpelled
mod Reaching
mod Spelled
mod Advancing
pub mod KnownEndings
mod Numbers
mod LongChunks
mod Written
pub mod KnownLonger
