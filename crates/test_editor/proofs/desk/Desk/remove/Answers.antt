use Rattle.std.proofs.Common.{ap}
use Rattle.prover_core.specs.States.{CoreState}
use Rattle.test_editor.specs.Tally.{counting}
use Rattle.test_editor.proofs.Moved.{later, removed}
use Rattle.test_editor.proofs.desk.Desk.remove.Goals as goal

pub invariant_of-self : goal.invariant_of-self
invariant_of-self c = later counting _ _ _ _ _ (ap (λ (s : CoreState). s.past) c.in_err-remove.ensures.err) c.self.invariant

pub invariant_of-self-2 : goal.invariant_of-self-2
invariant_of-self-2 c = later counting _ _ _ _ _ c.in_ok-remove.ensures.past (removed counting _ _ _ _ c.self.invariant _ c.in_ok-remove.field-0)
