use Rattle.std.proofs.Common.{◌≡◌, find}
use Rattle.suggest_rules.specs.Search.{says_same}
use Rattle.nj_suggest.proofs.citing.saying.Given as goal

abbrev pub invariant-loop-local : goal.invariant-loop-local
invariant-loop-local l =
    (goal.iterator-loop-local).can_next l.local-iterator × (goal.iterator-loop-local).is_finite l.local-iterator
    × (find (λ local. says_same local.formula l.goal) l.local-iterator ≡ find (λ local. says_same local.formula l.goal) l.names.facts)
