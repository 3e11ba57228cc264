use Rattle.test_editor.specs.Tally.{counting}
use Rattle.test_editor.proofs.Moved.{cancelled}
use Rattle.test_editor.proofs.desk.Desk.cancel.Goals as goal

pub invariant_of-self : goal.invariant_of-self
invariant_of-self c = cancelled counting _ _ _ _ c.self.invariant c.args.exec c.cancel.result _ c.cancel.ensures.cancelled
