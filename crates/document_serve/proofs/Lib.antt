mod Stops
pub mod KnownSent
mod Wrote
mod Hearing
mod Worked
mod Stepping
mod Waiting
mod At
mod Answered
pub mod KnownAnswered
mod HasCome
mod OneMore
mod Short
mod HandedBack
mod Ended
pub mod KnownCame
pub mod KnownCameLong
pub mod KnownEnds
mod Inputs
