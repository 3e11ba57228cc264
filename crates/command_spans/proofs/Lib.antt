mod SpanLemmas
mod SpanLaws
mod RunLemmas
mod CuttingLemmas
mod PlaceLemmas
mod ReadOn
mod RestartLemmas
mod MeetingLemmas
mod ChangeLemmas
mod KeepLemmas
mod EdgeLemmas
mod RelexLemmas
mod RelexSteps
mod KeptLaws
pub mod KnownEnds
