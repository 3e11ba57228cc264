use Rattle.std.proofs.Common.{◌≡◌, sym, subst, ⊎_elim}
use Rattle.outer_syntax.specs.Stages.{after_tokens}
use Rattle.outer_syntax.specs.declared.stage.Stage.{Stage}
use Rattle.outer_syntax.specs.declared.stage.Stage.TheVariants.{Ended, Absent}
use Rattle.command_spans.proofs.ReadOn.{ended-after, absent-after}
use Rattle.command_spans.proofs.edited.is_over.Goals as goal

pub returns-in-Ended : goal.returns-in-Ended
returns-in-Ended c text tokens = ⊎_elim
    (λ (e : c.args.stage ≡ Ended). subst (λ (s : Stage). after_tokens text s tokens ≡ s) (sym e) (ended-after text tokens))
    (λ (e : c.args.stage ≡ Absent). subst (λ (s : Stage). after_tokens text s tokens ≡ s) (sym e) (absent-after text tokens))
    c.in-Ended.is
