use Rattle.core_rules.specs.declared.event.Event.TheVariants.{Ended}
use Rattle.test_editor.specs.Tally.{counting}
use Rattle.test_editor.proofs.Moved.{later, moved_on}
use Rattle.test_editor.proofs.desk.Desk.end.Goals as goal

pub invariant_of-self : goal.invariant_of-self
invariant_of-self c = later counting _ _ _ _ _ c.end.ensures.past (moved_on counting _ _ _ _ c.self.invariant Ended tt (λ w. tt))
