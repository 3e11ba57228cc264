mod FormLemmas
mod TestLemmas
pub mod KnownSuggestions
