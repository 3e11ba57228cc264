use Rattle.std.proofs.Common.{◌≡◌, ◌∷◌, ℕ, List, None, cond, false, ap, sym, subst, ◌∙◌, refl}
use Rattle.std.specs.Prelude.{◌==◌}
use Rattle.std.specs.List.{list_any}
use Rattle.text_words.specs.Members.{has}
use Rattle.core_tables.specs.Removal.{left}
use Rattle.core_tables.specs.Rows.{execution_of}
use Rattle.core_rules.specs.Standing.{has_ended}
use Rattle.core_rules.specs.declared.event.Event.TheVariants.{Remove}
use Rattle.prover_core.specs.States.{CoreState}
use Rattle.prover_core.specs.Looked.{looked}
use Rattle.prover_core.proofs.EndedKept.{moved}
use Rattle.prover_core.proofs.RemovedKept.{removed_kept}
use Rattle.prover_core.proofs.prover.Core.remove.Goals as goal

pub invariant_of-self-in-Removed : goal.invariant_of-self-in-Removed
invariant_of-self-in-Removed g c =
    let going = subst (λ (s : CoreState). has_ended s.past ≡ false) (sym c.self.view_is) c.requires.going in
    let ids : List ℕ = c.as_slice-ids.result.now in
    let forgot = subst (λ (gs : List ℕ). (e : ℕ) → execution_of c.forget.new.self.rows e
    ≡ cond (list_any (λ id. id == e) gs) None (execution_of c.self.inside.execs.rows e)) c.deref.ensures.value c.forget.ensures.left in
    let forgotten = subst (λ (gs : List ℕ). (e : ℕ) → looked c.forget_all.new.known e
    ≡ cond (has gs e) None (looked c.self.inside.known e)) c.deref-in-Removed.ensures.value c.forget_all.ensures.homes in
    moved _ _ _ _ (c.add.ensures.items ∙ ap (λ vs. Remove vs ∷ c.self.inside.past) (sym c.as_slice-ids.ensures))
    (removed_kept _ _ _ c.self.invariant ids c.in_ok-leaving.leaving (sym c.remove.ensures.answer ∙ c.in-Removed.is) c.in_ok-leaving.ensures
    (λ e. execution_of c.forget.new.self.rows e) forgot
    (λ e. looked c.self.inside.known e) (λ e. looked c.forget_all.new.known e) (λ e. refl) forgotten
    c.remove.new.self going c.remove.ensures.start
    (c.remove.ensures.live ∙ ap (λ a. left a ids c.self.inside.versions.live) c.in-Removed.is) c.remove.ensures.tip)
