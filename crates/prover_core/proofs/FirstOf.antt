-- The part that a queue gives next is the first ready one of the document.
use Rattle.std.proofs.Common.{◌≡◌, ◌↔◌, ℕ, false, List, Option, Some, None, sym, subst, ◌∙◌}
use Rattle.std.specs.Option.{IfSome, IfNone, option_map}
use Rattle.pide_base.specs.declared.part.Part.{Part}
use Rattle.core_tables.specs.declared.task.Standing.{Standing as Task}
use Rattle.core_tables.specs.Ready.{IsReadyPart, IsNext, with_standing}
use Rattle.core_tables.specs.Changes.{taken_task}
use Rattle.language.specs.Lang.{Lang}
use Rattle.core_rules.specs.declared.event.Event.{Event}
use Rattle.core_rules.specs.Doc.{doc}
use Rattle.core_rules.specs.Ready.{IsFirst, is_ready, first_ready}
use Rattle.prover_core.specs.Tasks.{present_kind}
use Rattle.prover_core.specs.Kept.{Tables, IsKept}
use Rattle.prover_core.proofs.ReadyParts.{ready_whole}
use Rattle.prover_core.proofs.FirstParts.{next_ready, next_first, none_ready}
use Rattle.prover_core.proofs.TipLive.{Laws, in_tip}

module _ {S : Type 0} (l : Lang S) (h : List Event) (t : Tables S) (k : IsKept l h t) (laws : Laws l h)
    (first : (p : Part) → (first_ready l h ≡ Some p) ↔ IsFirst l h p)
    (none : (first_ready l h ≡ None) ↔ ((p : Part) → is_ready l h p ≡ false)) where
  -- what the queue gives
  pub first_of : (o : Option Part) → IfSome o (λ p. IsNext t.tasks p) → IfNone o ((p : Part) → IsReadyPart t.tasks p → ⊥)
      → o ≡ first_ready l h
  first_of (Some p) some nothing = sym ((first p).1 (record {
    ready = next_ready l h (doc l h) t.tasks (in_tip l h t k laws) p some;
    first = λ q ready. next_first l h (doc l h) t.tasks (in_tip l h t k laws) p q some ready;
  }))
  first_of None some nothing = sym (none.1 (none_ready l h (doc l h) t.tasks (in_tip l h t k laws) nothing))

  -- the task of the first ready part is that of its present part
  pub first_present : (p : Part) → first_ready l h ≡ Some p → present_kind l h (doc l h) p.exec ≡ Some p.kind
  first_present p is = (ready_whole l h (doc l h) t.tasks (in_tip l h t k laws) p ((first p).0 is).ready).0

  -- what taking it does
  pub taking : (o : Option Part) (tasks : ℕ → Option Task) (p : Part) → first_ready l h ≡ Some p
      → IfSome o (λ q. IsNext t.tasks q) → IfNone o ((q : Part) → IsReadyPart t.tasks q → ⊥)
      → IfSome o (λ q. (e : ℕ) → tasks e ≡ with_standing t.tasks q.exec (option_map taken_task
      (t.tasks q.exec)) e)
      → (e : ℕ) → tasks e ≡ with_standing t.tasks p.exec (option_map taken_task (t.tasks p.exec)) e
  taking o tasks p is some nothing then =
      subst (λ x. IfSome x (λ q. (e : ℕ) → tasks e ≡ with_standing t.tasks q.exec (option_map
      taken_task (t.tasks q.exec)) e))
      (first_of o some nothing ∙ is) then
