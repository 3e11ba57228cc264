use Rattle.std.proofs.Common.{ap, sym, subst, ◌∙◌}
use Rattle.version_losses.specs.Losses.{Line, AreLosses}
use Rattle.version_losses.proofs.LeavingIs.{leaves}
use Rattle.version_losses.proofs.losses.Losses.leaving.Goals as goal

pub returns : goal.returns
returns c = λ tip top live are is.
    leaves tip top c.args.ids.now c.deref.result.now live c.in_ok-leaving.leaving c.in_ok-leaving.ensures.left c.in_ok-leaving.ensures.gone
    (subst (λ xs. AreLosses tip top 0 xs live) (ap (λ (s : Line). s.losses) (sym c.self.view_is) ∙ sym c.deref.ensures.value) are) is
