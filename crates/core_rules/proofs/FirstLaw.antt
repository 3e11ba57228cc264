-- The first ready part, as a part and as a function.
use Rattle.std.proofs.Common.{◌≡◌, ℕ, zero, suc, ◌+◌, ◌<◌, ◌≤◌, Bool, true, false, ◌&&◌, ◌||◌, List, [], ◌∷◌, length, map, filter, Option, Some, None, refl, ap, sym, subst, ◌∙◌, arith}
use Rattle.std.proofs.lemmas.Bool.{eqb-true, eq-eqb, false≢true, or_left, or_right, and_parts}
use Rattle.std.specs.Prelude.{◌==◌}
use Rattle.std.specs.Option.{option_map_or}
use Rattle.std.specs.List.{list_any, flat_map, range_with_len}
use Rattle.pide_base.specs.declared.part.Part.{Part}
use Rattle.exec_rules.specs.declared.home.Home.{Home}
use Rattle.language.specs.Lang.{Lang}
use Rattle.core_rules.specs.declared.event.Event.{Event}
use Rattle.core_rules.specs.Numbered.{numbered}
use Rattle.core_rules.specs.Parts.{same_part, forks, kinds_by, parts_of}
use Rattle.core_rules.specs.Standing.{standing, is_unclaimed}
use Rattle.core_rules.specs.Doc.{doc}
use Rattle.core_rules.specs.Ready.{is_part, is_wanted, has_inputs, is_ready_in, is_ready, IsFirst, all_parts, first_among, first_ready}
use Rattle.core_rules.proofs.KnownNumbers.{numbered_within, numbered_positive}
use Rattle.core_rules.proofs.FirstReady.{among, among_append, among_filter, filtered, IsLeast, first_least, least_one}

module _ {S : Type 0} (l : Lang S) where
  among_made : (homes : List Home) (a n e : ℕ) (p : Part) → a ≤ e → e < a + n → among (parts_of l homes e) p ≡ true
      → among (flat_map (parts_of l homes) (range_with_len a n)) p ≡ true
  among_made homes a zero e p le lt is = absurd (omega arith)
  among_made homes a (suc n) e p le lt is =
      among_append (parts_of l homes a) (flat_map (parts_of l homes) (range_with_len (a + 1) n)) p
      ∙ go (a == e) refl (among_made homes (a + 1) n e p)
    where
      go : (b : Bool) → (a == e) ≡ b
          → (a + 1 ≤ e → e < a + 1 + n → among (parts_of l homes e) p ≡ true
          → among (flat_map (parts_of l homes) (range_with_len (a + 1) n)) p ≡ true)
          → (among (parts_of l homes a) p || among (flat_map (parts_of l homes) (range_with_len (a + 1) n)) p) ≡ true
      go true same rest =
          or_left _ _ (ap (λ x. among (parts_of l homes x) p) (eqb-true a e same) ∙ is)
      go false same rest = or_right _ _ (rest (more (λ eq. false≢true (sym same ∙ eq-eqb a e eq))) (omega arith) is)
        where
          more : ((a ≡ e) → ⊥) → a + 1 ≤ e
          more differ = omega (arith, le, differ)

  -- an execution with parts has a number
  pub has_number : (homes : List Home) (p : Part) → is_part l homes p ≡ true
      → (h : Home) × (numbered homes p.exec ≡ Some h)
  has_number homes p is = go (numbered homes p.exec) is
    where
      go : (o : Option Home)
          → list_any (same_part p) (option_map_or
          (λ (h : Home). map (λ k. record { exec = p.exec; kind = k }) (kinds_by h.input (forks l homes p.exec))) o []) ≡ true
          → (h : Home) × (o ≡ Some h)
      go None is = absurd (cc)
      go (Some h) is = (h, refl)

  pub is_made : (homes : List Home) (p : Part) → is_part l homes p ≡ true → among (all_parts l homes) p ≡ true
  is_made homes p is =
      let number = has_number homes p is in
      let low = numbered_positive homes p.exec number.0 number.1 in
      let high = numbered_within homes p.exec number.0 number.1 in
      among_made homes 1 (length homes) p.exec p low (omega (arith, high)) is

  abbrev ready_parts : List Event → List Part
  ready_parts h = filter (is_ready_in l h (doc l h)) (all_parts l (doc l h).homes)

  ready_listed : (h : List Event) (p : Part) → is_ready l h p ≡ true → among (ready_parts h) p ≡ true
  ready_listed h p ready =
      let part = and_parts (is_part l (doc l h).homes p) (is_wanted (doc l h) p.exec
      && (is_unclaimed (standing h p) && has_inputs h (doc l h).homes p)) ready in
      among_filter (is_ready_in l h (doc l h)) (all_parts l (doc l h).homes) p ready (is_made (doc l h).homes p part.0)

  listed_ready : (h : List Event) (p : Part) → among (ready_parts h) p ≡ true → is_ready l h p ≡ true
  listed_ready h p is = filtered (is_ready_in l h (doc l h)) (all_parts l (doc l h).homes) p is

  least_first : (h : List Event) (p : Part) → IsLeast (doc l h).tip (ready_parts h) p → IsFirst l h p
  least_first h p so = record {
    ready = listed_ready h p so.is;
    first = λ q ready. so.least q (ready_listed h q ready);
  }

  first_least_of : (h : List Event) (p : Part) → IsFirst l h p → IsLeast (doc l h).tip (ready_parts h) p
  first_least_of h p so = record {
    is = ready_listed h p so.ready;
    least = λ q is. so.first q (listed_ready h q is);
  }

  -- the function gives the first ready part
  pub given_first : (h : List Event) (p : Part) → first_ready l h ≡ Some p → IsFirst l h p
  given_first h p e = least_first h p (go (ready_parts h) e)
    where
      go : (xs : List Part) → first_among (doc l h).tip xs ≡ Some p → IsLeast (doc l h).tip xs p
      go [] e = absurd (cc)
      go (x ∷ xs) e =
          let first = first_least (doc l h).tip x xs in
          let same : first.0 ≡ p = let f = first.1 in cc in
          subst (IsLeast (doc l h).tip (x ∷ xs)) same first.2

  pub first_given : (h : List Event) (p : Part) → IsFirst l h p → first_ready l h ≡ Some p
  first_given h p so = go (ready_parts h) (first_least_of h p so)
    where
      go : (xs : List Part) → IsLeast (doc l h).tip xs p → first_among (doc l h).tip xs ≡ Some p
      go [] least = let no = least.is in absurd (cc)
      go (x ∷ xs) least =
          let first = first_least (doc l h).tip x xs in
          first.1 ∙ ap (λ q. Some q) (least_one (doc l h).tip (x ∷ xs) first.0 p first.2 least)

  -- it gives none exactly where nothing is ready
  pub none_ready : (h : List Event) → first_ready l h ≡ None → (p : Part) → is_ready l h p ≡ false
  none_ready h e p = go (ready_parts h) e (ready_listed h p) (is_ready l h p) refl
    where
      go : (xs : List Part) → first_among (doc l h).tip xs ≡ None → (is_ready l h p ≡ true → among xs p ≡ true)
          → (b : Bool) → is_ready l h p ≡ b → b ≡ false
      go xs e listed false ready = refl
      go [] e listed true ready = absurd (false≢true (listed ready))
      go (x ∷ xs) e listed true ready =
          let first = first_least (doc l h).tip x xs in let f = first.1 in absurd (cc)

  pub ready_none : (h : List Event) → ((p : Part) → is_ready l h p ≡ false) → first_ready l h ≡ None
  ready_none h nothing = go (first_ready l h) refl
    where
      go : (o : Option Part) → first_ready l h ≡ o → o ≡ None
      go None e = refl
      go (Some p) e = absurd (false≢true (sym (nothing p) ∙ (given_first h p e).ready))
