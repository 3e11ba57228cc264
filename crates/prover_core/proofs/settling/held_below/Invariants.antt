use Rattle.std.proofs.Common.{◌≡◌, ◌<◌, false}
use Rattle.std.specs.Prelude.{is_some}
use Rattle.std.specs.List.{All}
use Rattle.core_tables.specs.Tasks.{standing}
use Rattle.prover_core.proofs.settling.held_below.Given as goal

abbrev pub invariant-loop-part : goal.invariant-loop-part
invariant-loop-part l =
    (goal.iterator-loop-part).can_next l.part-iterator
    × (goal.iterator-loop-part).is_finite l.part-iterator
    × All (λ p. p.1.now.exec < l.behind → is_some (standing l.queue p.1.now.exec) ≡ false) l.yielded
