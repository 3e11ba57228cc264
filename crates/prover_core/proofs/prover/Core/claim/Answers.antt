use Rattle.std.proofs.Common.{inl, inr, sym, ap, subst, ◌∙◌, refl}
use Rattle.std.proofs.lemmas.Bool.{false≢true}
use Rattle.std.specs.Prelude.{is_some}
use Rattle.prover_core.specs.Looked.{looked}
use Rattle.prover_core.specs.States.{CoreState}
use Rattle.prover_core.specs.Claims.{IsIdle}
use Rattle.prover_core.proofs.prover.Core.claim.Goals as goal
use Rattle.prover_core.proofs.prover.Core.claim.Goals.{then-self-via-then-self, then-self-via-else-self+then-contains_key}

pub returns-then-self-clause-claimed : goal.returns-then-self-clause-claimed
returns-then-self-clause-claimed g c = (
  subst (λ (s : CoreState). IsIdle g.L.Language.lang s.past c.args.who) c.self.view_is
      (elim c.then-self.branch [
        | then-self-via-then-self w ↦ inr (inr (sym c.self.invariant.ended ∙ w.if-self.true))
        | then-self-via-else-self+then-contains_key w ↦ inr (inl (λ none.
            absurd (false≢true (ap is_some (sym (ap (looked c.self.inside.holders) w.from.ensures
            ∙ c.self.invariant.holders c.args.who ∙ none)) ∙ sym w.contains_key.ensures ∙ w.if-contains_key.true))))
      ]),
  refl,
)
