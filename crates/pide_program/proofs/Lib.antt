mod Unread
mod Unbuilt
mod Asking
mod Shown
mod Loops
mod Summing
mod WholeRuns
mod OneOutcome
