mod DotLemmas
pub mod KnownFree
mod NextLemmas
mod ChosenLemmas
mod EnoughLemmas
mod SearchLemmas
mod SeenLemmas
mod ProvenLemmas
pub mod KnownFound
mod FactLemmas
mod SoundLemmas
mod TextLemmas
mod FormLemmas
