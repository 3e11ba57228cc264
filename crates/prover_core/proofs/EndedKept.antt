-- What is kept once all has ended.
use Rattle.std.proofs.Common.{◌≡◌, false, true, List, ◌∷◌, refl, sym, subst}
use Rattle.language.specs.Lang.{Lang}
use Rattle.core_rules.specs.declared.event.Event.{Event}
use Rattle.core_rules.specs.declared.event.Event.TheVariants.{Ended}
use Rattle.core_rules.specs.Standing.{has_ended}
use Rattle.prover_core.specs.Kept.{Tables, IsKept}
use Rattle.prover_core.proofs.KeptOn.{kept_on}

pub ended_kept : {S : Type 0} (l : Lang S) (h : List Event) (t : Tables S) → IsKept l h t → has_ended h ≡ false
    → IsKept l (Ended ∷ h) (record t { ended = true })
ended_kept l h t k going = kept_on l h (Ended ∷ h) t k refl t.rows t.holders t.holding t.tasks t.room t.count true (k.legal, going)
    k.rows k.in_order k.holders k.held_next k.tasks refl k.room k.spare

-- what has happened may be told in other words
pub moved : {S : Type 0} (l : Lang S) (h now : List Event) (t : Tables S) → now ≡ h → IsKept l h t → IsKept l now t
moved l h now t same k = subst (λ x. IsKept l x t) (sym same) k
