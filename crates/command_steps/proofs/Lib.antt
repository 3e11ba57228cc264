mod DescribedLemmas
mod ClosedLemmas
mod ModeLemmas
mod MovedLemmas
mod LineLemmas
mod NameLemmas
