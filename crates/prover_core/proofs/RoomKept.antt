-- What is kept once there is more room.
use Rattle.std.proofs.Common.{◌≡◌, ℕ, ◌≤◌, List, Option, refl, sym, subst, ◌∙◌, arith}
use Rattle.pide_base.specs.declared.part.Part.{Part}
use Rattle.core_tables.specs.declared.task.Standing.{Standing as Task}
use Rattle.language.specs.Lang.{Lang}
use Rattle.core_rules.specs.declared.event.Event.{Event}
use Rattle.core_rules.specs.Doc.{doc}
use Rattle.prover_core.specs.Tasks.{HasTask}
use Rattle.prover_core.specs.Kept.{Tables, IsKept}
use Rattle.prover_core.proofs.KeptOn.{kept_on}

pub roomier : {S : Type 0} (l : Lang S) (h : List Event) (t : Tables S) → IsKept l h t
    → (holders : ℕ → Option Part) (holding : ℕ) (tasks : ℕ → Option Task) (room count : ℕ)
    → ((who : ℕ) → holders who ≡ t.holders who) → holding ≡ t.holding → ((e : ℕ) → tasks e ≡ t.tasks e) → t.room ≤ room → count ≡ t.count
    → IsKept l h (record t { holders = holders; holding = holding; tasks = tasks; room = room; count = count })
roomier l h t k holders holding tasks room count same len are more as_many =
    kept_on l h h t k refl t.rows holders holding tasks room count t.ended k.legal k.rows k.in_order (λ who. same who ∙ k.holders who) k.held_next
    (λ e. subst (HasTask l h (doc l h) e) (sym (are e)) (k.tasks e)) k.ended (omega (arith, len, more, k.room)) (omega (arith, as_many, k.spare))
