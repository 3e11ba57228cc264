use Rattle.std.proofs.Common.{◌≡◌}
use Rattle.suggest_rules.specs.Names.{is_name_of}
use Rattle.nj_suggest.proofs.naming.is_name_of.Given as goal

abbrev pub invariant-loop-local : goal.invariant-loop-local
invariant-loop-local l =
    (goal.iterator-loop-local).can_next l.local-iterator × (goal.iterator-loop-local).is_finite l.local-iterator
    × (is_name_of l.local-iterator l.name ≡ is_name_of l.facts l.name)
