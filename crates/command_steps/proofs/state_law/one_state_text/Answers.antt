use Rattle.std.proofs.Common.{ℕ, List, sym, subst, ◌∙◌}
use Rattle.proof_state.specs.Describes.{Describes}
use Rattle.proof_state.proofs.KnownDescribed.{one_description}
use Rattle.command_steps.proofs.DescribedLemmas.{description_is}
use Rattle.command_steps.proofs.state_law.one_state_text.Goals as goal

pub returns : goal.returns
returns c levels text =
    let some = one_description levels in
    (description_is levels text, λ is. subst (λ (t : List ℕ). Describes levels t) (description_is levels some.0 some.1 ∙ sym is) some.1)
