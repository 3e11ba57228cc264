-- How many parts are unfinished, and that there are fewer once one is finished.
use Rattle.std.proofs.Common.{◌≡◌, ℕ, suc, ◌+◌, ◌<◌, ◌≤◌, Bool, true, false, cond, ◌||◌, List, [], ◌∷◌, length, refl, ap, sym, subst, ◌∙◌, arith}
use Rattle.pide_base.specs.declared.part.Part.{Part}
use Rattle.core_rules.specs.declared.event.Event.{Event}
use Rattle.core_rules.specs.declared.event.Event.TheVariants.{Claimed, Finished}
use Rattle.core_rules.specs.Parts.{same_part}
use Rattle.core_rules.specs.Standing.{Held, Done, standing, is_done, is_finished}
use Rattle.core_rules.proofs.KnownParts.{part_is}
use Rattle.core_rules.proofs.FirstReady.{among}

-- how many of these parts are unfinished
abbrev pub left_by : Bool → ℕ → ℕ
left_by true n = n
left_by false n = suc n

abbrev pub left : List Event → List Part → ℕ
left h [] = 0
left h (p ∷ ps) = left_by (is_finished h p) (left h ps)

pub left_within : (h : List Event) (ps : List Part) → left h ps ≤ length ps
left_within h [] = omega arith
left_within h (p ∷ ps) = go (is_finished h p) (left_within h ps)
  where
    go : (b : Bool) → left h ps ≤ length ps → left_by b (left h ps) ≤ suc (length ps)
    go true le = omega arith
    go false le = omega arith

-- what is unfinished among them counts
pub some_left : (h : List Event) (ps : List Part) (p : Part) → among ps p ≡ true → is_finished h p ≡ false → 0 < left h ps
some_left h [] p is open_ = absurd (cc)
some_left h (q ∷ ps) p is open_ = go (same_part p q) refl is (some_left h ps p)
  where
    by : (b : Bool) → 0 < left h ps → 0 < left_by b (left h ps)
    by true lt = lt
    by false lt = omega arith

    go : (b : Bool) → same_part p q ≡ b → (b || among ps p) ≡ true → (among ps p ≡ true → is_finished h p ≡ false → 0 < left h ps)
        → 0 < left_by (is_finished h q) (left h ps)
    go true e is rest =
        let here : is_finished h q ≡ false = ap (is_finished h) (sym (part_is p q e)) ∙ open_ in
        subst (λ b. 0 < left_by b (left h ps)) (sym here) (omega arith)
    go false e is rest = by (is_finished h q) (rest is open_)

module _ (h : List Event) (who : ℕ) (p : Part) where
  abbrev pub more : List Event
  more = Finished who p ∷ Claimed who p ∷ h

  finished_so : (q : Part) → is_finished more q ≡ cond (same_part p q) true (is_finished h q)
  finished_so q = go (same_part p q)
    where
      go : (b : Bool) → is_done (cond b Done (cond b (Held who) (standing h q))) ≡ cond b true (is_finished h q)
      go true = refl
      go false = refl

  fewer_by : (b c : Bool) (m n : ℕ) → m ≤ n → left_by (cond b true c) m ≤ left_by c n
  fewer_by true true m n le = le
  fewer_by true false m n le = omega arith
  fewer_by false true m n le = le
  fewer_by false false m n le = omega arith

  no_more : (ps : List Part) → left more ps ≤ left h ps
  no_more [] = omega arith
  no_more (q ∷ ps) = subst (λ b. left_by b (left more ps) ≤ left_by (is_finished h q) (left h ps)) (sym (finished_so q))
      (fewer_by (same_part p q) (is_finished h q) (left more ps) (left h ps) (no_more ps))

  -- a part that is finished leaves fewer
  pub fewer : (ps : List Part) → among ps p ≡ true → is_finished h p ≡ false → left more ps + 1 ≤ left h ps
  fewer [] is open_ = absurd (cc)
  fewer (q ∷ ps) is open_ = subst (λ b. left_by b (left more ps) + 1 ≤ left_by (is_finished h q) (left h ps)) (sym (finished_so q))
      (go (same_part p q) refl is (fewer ps))
    where
      by : (c : Bool) (m n : ℕ) → m + 1 ≤ n → left_by c m + 1 ≤ left_by c n
      by true m n le = le
      by false m n le = omega arith

      go : (b : Bool) → same_part p q ≡ b → (b || among ps p) ≡ true
          → (among ps p ≡ true → is_finished h p ≡ false → left more ps + 1 ≤ left h ps)
          → left_by (cond b true (is_finished h q)) (left more ps) + 1 ≤ left_by (is_finished h q) (left h ps)
      go true e is rest =
          let here : is_finished h q ≡ false = ap (is_finished h) (sym (part_is p q e)) ∙ open_ in
          let le = no_more ps in
          subst (λ b. left more ps + 1 ≤ left_by b (left h ps)) (sym here) (omega (arith, le))
      go false e is rest = by (is_finished h q) (left more ps) (left h ps) (rest is open_)
