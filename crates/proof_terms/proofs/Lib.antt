mod StepLemmas
mod SpelledLemmas
mod QuotedLemmas
mod CompleteLemmas
mod TakenMarks
mod SoundLemmas
mod JudgedParts
mod JudgedLemmas
mod AnsweredLemmas
mod GivenLemmas
mod BuiltLemmas
mod CitingLemmas
pub mod KnownCiting
pub mod KnownTerms
pub mod KnownLayers
