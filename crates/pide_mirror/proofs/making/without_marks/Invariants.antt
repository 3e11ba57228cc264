use Rattle.std.proofs.Common.{◌≡◌, map}
use Rattle.pide_mirror.proofs.making.without_marks.Given as goal

abbrev pub invariant-nodes : goal.invariant-nodes
invariant-nodes l = goal.iterator-nodes.can_next l.new-iterator
    × goal.iterator-nodes.is_finite l.new-iterator
    × (l.all ≡ map (λ new. new.rows) l.yielded)
