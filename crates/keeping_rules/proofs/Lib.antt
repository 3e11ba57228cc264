mod Heard
mod Sent
mod Made
mod Jobs
mod Refusals
mod Held
mod Turns
pub mod KnownNothingDue
mod Kept
mod SentReplies
mod Cancels
mod Removals
pub mod KnownChecked
mod Updates
mod Reports
mod WorkerTurns
mod Free
mod Accepts
mod Steps
mod Protocols
