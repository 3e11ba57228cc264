-- What a worker holds is a part of its execution.
use Rattle.std.proofs.Common.{◌≡◌, ℕ, Bool, true, false, List, [], ◌∷◌, map, Option, Some, None, refl, ap, subst, ◌∙◌}
use Rattle.std.proofs.lemmas.Bool.{and_parts}
use Rattle.std.specs.Prelude.{◌==◌, if◌then◌else◌, ◌&&◌}
use Rattle.std.specs.Option.{option_map_or}
use Rattle.std.specs.List.{list_any}
use Rattle.pide_base.specs.declared.part.Part.{Part}
use Rattle.exec_rules.specs.declared.home.Home.{Home}
use Rattle.language.specs.Lang.{Lang}
use Rattle.core_rules.specs.declared.event.Event.{Event}
use Rattle.core_rules.specs.declared.event.Event.TheVariants as event
use Rattle.core_rules.specs.Numbered.{numbered}
use Rattle.core_rules.specs.Parts.{same_part, forks, kinds_by}
use Rattle.core_rules.specs.Standing.{standing, is_unclaimed, held}
use Rattle.core_rules.specs.Doc.{assignment_of, doc}
use Rattle.core_rules.specs.Ready.{is_part, is_wanted, has_inputs}
use Rattle.core_rules.specs.Legal.{IsLegal}
use Rattle.core_rules.proofs.KnownNumbers.{numbered_within}
use Rattle.core_rules.proofs.KnownStays.{parts_grown}

-- a part of an execution that was made
pub part_made : {S : Type 0} (l : Lang S) (homes : List Home) (p : Part) → is_part l homes p ≡ true
    → (x : Home) × (numbered homes p.exec ≡ Some x)
part_made l homes p is = go (numbered homes p.exec) refl is
  where
    go : (o : Option Home) → numbered homes p.exec ≡ o
        → list_any (same_part p) (option_map_or (λ (x : Home). map (λ k. record { exec = p.exec; kind = k }) (kinds_by x.input (forks l homes p.exec))) o []) ≡ true
        → (x : Home) × (numbered homes p.exec ≡ Some x)
    go None at is = absurd (cc)
    go (Some x) at is = (x, at)

let_go : {P : Type 0} (b : Bool) (o : Option Part) (p : Part) → (if b then None else o) ≡ Some p → (o ≡ Some p → P) → P
let_go true o p is rest = absurd (cc)
let_go false o p is rest = rest is

module _ {S : Type 0} (l : Lang S) where
  pub held_real : (h : List Event) (w : ℕ) (p : Part) → IsLegal l h → held h w ≡ Some p → is_part l (doc l h).homes p ≡ true
  held_real [] w p legal is = absurd (cc)
  held_real (event.Update id nodes blobs ∷ h) w p legal is =
      let real = held_real h w p legal.0 is in
      let made = part_made l (doc l h).homes p real in
      ap (list_any (same_part p)) (parts_grown l (doc l h).homes (assignment_of (doc l h) nodes blobs).homes p.exec
      (numbered_within (doc l h).homes p.exec made.0 made.1)) ∙ real
  held_real (event.Cancel e ∷ h) w p legal is = held_real h w p legal.0 is
  held_real (event.Remove ids ∷ h) w p legal is = held_real h w p legal.0 is
  held_real (event.Claimed who q ∷ h) w p legal is = go (who == w) is (held_real h w p legal.0)
    where
      ready : is_part l (doc l h).homes q ≡ true
      ready = (and_parts (is_part l (doc l h).homes q) (is_wanted (doc l h) q.exec && (is_unclaimed (standing h q) && has_inputs h (doc l h).homes q)) legal.1.2.ready).0

      go : (b : Bool) → (if b then Some q else held h w) ≡ Some p → (held h w ≡ Some p → is_part l (doc l h).homes p ≡ true)
          → is_part l (doc l h).homes p ≡ true
      go true is rest = let same : q ≡ p = cc in subst (λ x. is_part l (doc l h).homes x ≡ true) same ready
      go false is rest = rest is
  held_real (event.Finished who q ∷ h) w p legal is = let_go (who == w) (held h w) p is (held_real h w p legal.0)
  held_real (event.Dropped who q ∷ h) w p legal is = let_go (who == w) (held h w) p is (held_real h w p legal.0)
  held_real (event.Ended ∷ h) w p legal is = held_real h w p legal.0 is
