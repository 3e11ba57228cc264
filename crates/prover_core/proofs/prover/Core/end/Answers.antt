use Rattle.std.proofs.Common.{◌≡◌, false, sym, subst}
use Rattle.core_rules.specs.Standing.{has_ended}
use Rattle.prover_core.specs.States.{CoreState}
use Rattle.prover_core.proofs.EndedKept.{moved, ended_kept}
use Rattle.prover_core.proofs.prover.Core.end.Goals as goal

pub invariant_of-self : goal.invariant_of-self
invariant_of-self g c =
    let going = subst (λ (s : CoreState). has_ended s.past ≡ false) (sym c.self.view_is) c.requires.going in
    moved _ _ _ _ c.add.ensures.items (ended_kept _ _ _ c.self.invariant going)
