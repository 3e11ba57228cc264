mod SetsLemmas
mod DeriveLemmas
mod TruthLemmas
mod KeyLemmas
mod OrderLemmas
mod JoinLemmas
mod RisesLemmas
mod MadeLemmas
