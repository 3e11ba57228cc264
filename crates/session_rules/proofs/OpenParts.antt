-- Unfinished parts of executions, which are parts from the moment on at which these were made.
use Rattle.std.proofs.Common.{◌≡◌, ℕ, ◌+◌, ◌≤◌, Bool, true, false, not, ◌||◌, List, [], ◌∷◌, ◌++◌, length, refl, sym, ap, ◌∙◌, arith}
use Rattle.std.proofs.lemmas.Bool.{false≢true, or_left, or_right}
use Rattle.std.specs.List.{list_any}
use Rattle.pide_base.specs.declared.part.Part.{Part}
use Rattle.exec_rules.specs.Listed.{executions}
use Rattle.language.specs.Lang.{Lang}
use Rattle.core_rules.specs.declared.event.Event.{Event}
use Rattle.core_rules.specs.declared.event.Event.TheVariants as event
use Rattle.core_rules.specs.Doc.{assignment_of, doc}
use Rattle.core_rules.specs.Parts.{same_part}
use Rattle.core_rules.specs.Ready.{is_part}
use Rattle.core_rules.specs.Standing.{is_finished}
use Rattle.core_rules.proofs.KnownNumbers.{length_grown}
use Rattle.core_rules.proofs.KnownParts.{part_is}
use Rattle.core_rules.proofs.KnownStays.{parts_grown}

-- an unfinished part leaves its execution open
pub opens : {S : Type 0} (l : Lang S) (h : List Event) (p : Part) (ps : List Part) → is_finished h p ≡ false → list_any (same_part p) ps ≡ true
    → list_any (λ q. not (is_finished h q)) ps ≡ true
opens l h p [] going is = absurd (false≢true is)
opens l h p (q ∷ ps) going is = go (same_part p q) refl is (opens l h p ps going)
  where
    go : (b : Bool) → same_part p q ≡ b → (b || list_any (same_part p) ps) ≡ true → (list_any (same_part p) ps ≡ true → list_any (λ r. not (is_finished h r)) ps ≡ true)
        → (not (is_finished h q) || list_any (λ r. not (is_finished h r)) ps) ≡ true
    go true same is rest = or_left (not (is_finished h q)) _ (ap (λ r. not (is_finished h r)) (sym (part_is p q same)) ∙ ap not going)
    go false other is rest = or_right (not (is_finished h q)) _ (rest is)

module _ {S : Type 0} (l : Lang S) where
  homes_within : (more before : List Event) (e : ℕ) → e ≤ length (doc l before).homes → e ≤ length (doc l (more ++ before)).homes
  homes_within [] before e le = le
  homes_within (event.Update id nodes blobs ∷ more) before e le =
      omega (arith, homes_within more before e le, length_grown (doc l (more ++ before)).homes (assignment_of (doc l (more ++ before)) nodes blobs).homes)
  homes_within (event.Cancel x ∷ more) before e le = homes_within more before e le
  homes_within (event.Remove ids ∷ more) before e le = homes_within more before e le
  homes_within (event.Claimed who p ∷ more) before e le = homes_within more before e le
  homes_within (event.Finished who p ∷ more) before e le = homes_within more before e le
  homes_within (event.Dropped who p ∷ more) before e le = homes_within more before e le
  homes_within (event.Ended ∷ more) before e le = homes_within more before e le

  -- a part of an execution was one when that was made
  pub part_then : (more before : List Event) (p : Part) → p.exec ≤ length (doc l before).homes → is_part l (doc l (more ++ before)).homes p ≡ is_part l (doc l before).homes p
  part_then [] before p le = refl
  part_then (event.Update id nodes blobs ∷ more) before p le =
      ap (list_any (same_part p)) (parts_grown l (doc l (more ++ before)).homes (assignment_of (doc l (more ++ before)) nodes blobs).homes p.exec (homes_within more before p.exec le))
      ∙ part_then more before p le
  part_then (event.Cancel x ∷ more) before p le = part_then more before p le
  part_then (event.Remove ids ∷ more) before p le = part_then more before p le
  part_then (event.Claimed who q ∷ more) before p le = part_then more before p le
  part_then (event.Finished who q ∷ more) before p le = part_then more before p le
  part_then (event.Dropped who q ∷ more) before p le = part_then more before p le
  part_then (event.Ended ∷ more) before p le = part_then more before p le
