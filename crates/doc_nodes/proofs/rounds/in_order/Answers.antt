use Rattle.std.proofs.Common.{eqb, sym, ◌∙◌}
use Rattle.std.proofs.lemmas.List.Filters.{dedup_is}
use Rattle.std.proofs.lemmas.List.Sorted.{list_any-IsPermutation}
use Rattle.std.proofs.lemmas.Map.Keys.{IsStrictlyIncreasing-dedup}
use Rattle.text_words.proofs.KnownMembers.{has_dedup}
use Rattle.doc_nodes.proofs.rounds.in_order.Goals as goal

pub returns-clause-same : goal.returns-clause-same
returns-clause-same c = λ p.
    rw (dedup_is eqb _ _ c.dedup.ensures.filtered) (has_dedup _ p ∙ sym (list_any-IsPermutation (eqb p) _ _ c.sort_unstable.ensures.permutation))

pub returns-clause-rises : goal.returns-clause-rises
returns-clause-rises c = rw (dedup_is eqb _ _ c.dedup.ensures.filtered) (IsStrictlyIncreasing-dedup _ c.sort_unstable.ensures.sorted)
