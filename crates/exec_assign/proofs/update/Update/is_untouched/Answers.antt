use Rattle.std.proofs.Common.{subst}
use Rattle.exec_rules.specs.Assigning.{Update}
use Rattle.exec_assign.specs.Untouched.{AreUntouched}
use Rattle.exec_assign.proofs.update.Update.is_untouched.Goals as goal

pub returns-then-place-self : goal.returns-then-place-self
returns-then-place-self g c = λ is name node at.
    subst (λ (u : Update). AreUntouched u c.self.inside.untouched.now) c.self.view_is c.self.invariant.untouched_are c.args.place (name, node) is at
