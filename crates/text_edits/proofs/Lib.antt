mod EditLemmas
mod MovedLemmas
mod OffsetLemmas
