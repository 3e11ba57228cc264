-- Whether one of some commands takes what is told.
use Rattle.std.proofs.Common.{◌≡◌, ℕ, zero, suc, Bool, true, false, cond, [], ◌∷◌, ◌++◌, Option, Some, None, refl, ap, sym, subst, ◌∙◌}
use Rattle.std.specs.Prelude.{find, slice_get, ◌||◌, if◌then◌else◌}
use Rattle.std.specs.Option.{option_map}
use Rattle.std.specs.Ordering.{nat_cmp, is_eq}
use Rattle.std.specs.List.{list_any}
use Rattle.std.specs.Cmp.{unsigned_tied}
use Rattle.std.specs.declared.cmp.Ordering.TheVariants.{Less}
use Rattle.std.proofs.lemmas.Bool.{eq-eqb, eqb-true, or_left, or_right}
use Rattle.std.proofs.lemmas.List.Folds.{list_any-append}
use Rattle.shared_map.specs.Pairs.{Each, IsSorted, has_key, found}
use Rattle.mirror_rules.specs.Reports.{PartReport}
use Rattle.pide_mirror.specs.Places.{takes}
use Rattle.pide_mirror.specs.declared.place.Place.{Place}
use Rattle.text_words.proofs.KnownFinds.{any_at, any_from}
use Rattle.pide_mirror.proofs.Telling.{Commands}

-- what is found stands somewhere
found_stands : (c : ℕ) (all : Commands) (place : Place) → found nat_cmp c all ≡ Some place → (i : ℕ) × (slice_get all i ≡ Some (c, place))
found_stands c [] place is = absurd (cc)
found_stands c (x ∷ all) place is = go (is_eq (nat_cmp x.0 c)) refl is (found_stands c all place)
  where
    go : (b : Bool) → is_eq (nat_cmp x.0 c) ≡ b → option_map (λ (pair : ℕ × Place). pair.1) (cond b (Some x) (find (has_key nat_cmp c) all)) ≡ Some place
        → (found nat_cmp c all ≡ Some place → (i : ℕ) × (slice_get all i ≡ Some (c, place)))
        → (i : ℕ) × (slice_get (x ∷ all) i ≡ Some (c, place))
    go true same at more =
        let e : x.0 ≡ c = eqb-true x.0 c (sym (unsigned_tied x.0 c) ∙ same) in
        let f : x.1 ≡ place = cc in
        (zero, ap (λ d. Some (d, x.1)) e ∙ ap (λ p. Some (c, p)) f)
    go false other at more = let rest = more at in (suc rest.0, rest.1)

stands_found : (all : Commands) (i c : ℕ) (place : Place) → IsSorted nat_cmp all → slice_get all i ≡ Some (c, place) → found nat_cmp c all ≡ Some place
stands_found [] i c place sorted at = absurd (cc)
stands_found (x ∷ all) zero c place sorted at =
    let e : x ≡ (c, place) = cc in
    ap (λ (y : ℕ × Place). found nat_cmp c (y ∷ all)) e
    ∙ ap (λ b. option_map (λ (pair : ℕ × Place). pair.1) (cond b (Some (c, place)) (find (has_key nat_cmp c) all))) (unsigned_tied c c ∙ eq-eqb c c refl)
stands_found (x ∷ all) (suc i) c place sorted at =
    ap (λ o. option_map (λ (pair : ℕ × Place). pair.1) (cond (is_eq o) (Some x) (find (has_key nat_cmp c) all)))
    (each_in (λ other. nat_cmp x.0 other.0 ≡ Less) all i (c, place) sorted.0 at)
    ∙ stands_found all i c place sorted.1 at
  where
    each_in : (P : ℕ × Place → Type 0) (xs : Commands) (j : ℕ) (y : ℕ × Place) → Each P xs → slice_get xs j ≡ Some y → P y
    each_in P [] j y all at = absurd (cc)
    each_in P (z ∷ xs) zero y all at = let same : z ≡ y = cc in subst P same all.0
    each_in P (z ∷ xs) (suc j) y all at = each_in P xs j y all.1 at

-- one of the commands takes what is told just where one that is found does
pub any_takes : (told : PartReport) (all : Commands) → IsSorted nat_cmp all → list_any (λ pair. takes told pair.1) all ≡ true
    → (c : ℕ) × (place : Place) × (found nat_cmp c all ≡ Some place) × (takes told place ≡ true)
any_takes told all sorted is =
    let one = any_from (λ pair. takes told pair.1) all is in
    (one.1.0, one.1.1, stands_found all one.0 one.1.0 one.1.1 sorted one.2, one.3)

pub taken_any : (told : PartReport) (all : Commands) (c : ℕ) (place : Place) → found nat_cmp c all ≡ Some place → takes told place ≡ true
    → list_any (λ pair. takes told pair.1) all ≡ true
taken_any told all c place at is =
    let stands = found_stands c all place at in
    any_at (λ pair. takes told pair.1) all stands.0 (c, place) stands.1 is

-- whether a command that is next is taken
pub took : (b : Bool) (x p : Place) (o : Option Place) → o ≡ (if b then Some x else None) → o ≡ Some p → (b ≡ true) × (p ≡ x)
took true x p o is at = let e : Some x ≡ Some p = sym is ∙ at in (refl, cc)
took false x p o is at = absurd (cc)

pub left_out : (b : Bool) (x : Place) (o : Option Place) → o ≡ (if b then Some x else None) → o ≡ None → b ≡ false
left_out true x o is at = absurd (cc)
left_out false x o is at = refl

module _ (told : PartReport) (k : ℕ) (v : Place) (front : Commands) where
  abbrev any_taken : Commands → Bool
  any_taken all = list_any (λ pair. takes told pair.1) all

  pub any_now : takes told v ≡ true → true ≡ any_taken (front ++ (k, v) ∷ [])
  any_now is = sym (list_any-append (λ (pair : ℕ × Place). takes told pair.1) front ((k, v) ∷ []) ∙ or_right (any_taken front) (takes told v || false) (or_left (takes told v) false is))

  pub any_still : (b : Bool) → b ≡ any_taken front → takes told v ≡ false → b ≡ any_taken (front ++ (k, v) ∷ [])
  any_still b is out = is ∙ sym (list_any-append (λ (pair : ℕ × Place). takes told pair.1) front ((k, v) ∷ [])
      ∙ ap (λ x. any_taken front || (x || false)) out ∙ or_no (any_taken front))
    where
      or_no : (b : Bool) → (b || false) ≡ b
      or_no true = refl
      or_no false = refl
