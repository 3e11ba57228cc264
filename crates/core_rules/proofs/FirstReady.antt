-- The first of some parts.
use Rattle.std.proofs.Common.{◌≡◌, Bool, true, false, cond, ◌||◌, List, [], ◌∷◌, ◌++◌, filter, Some, refl, ap, sym, subst, ◌∙◌}
use mathlib.Core.Bool.{or_assoc}
use Rattle.std.proofs.lemmas.Bool.{false≢true, or_left, or_right}
use Rattle.std.specs.List.{list_any}
use Rattle.pide_base.specs.declared.part.Part.{Part}
use Rattle.exec_rules.specs.declared.version.Version.{Version}
use Rattle.core_rules.specs.Parts.{same_part}
use Rattle.core_rules.specs.Ready.{comes_before, sooner, first_among}
use Rattle.core_rules.proofs.KnownParts.{part_is, part_itself}
use Rattle.core_rules.proofs.TakingOrder.{not_before, one_first, not_itself, not_both}

-- the part is among these
abbrev pub among : List Part → Part → Bool
among ps p = list_any (same_part p) ps

pub among_append : (xs ys : List Part) (p : Part) → among (xs ++ ys) p ≡ (among xs p || among ys p)
among_append [] ys p = refl
among_append (x ∷ xs) ys p = ap (λ b. same_part p x || b) (among_append xs ys p) ∙ sym (or_assoc (same_part p x) (among xs p) (among ys p))

-- what passes a test
pub among_filter : (test : Part → Bool) (xs : List Part) (p : Part) → test p ≡ true → among xs p ≡ true
    → among (filter test xs) p ≡ true
among_filter test [] p passes is = is
among_filter test (x ∷ xs) p passes is = go (same_part p x) (test x) refl refl is (among_filter test xs p passes)
  where
    go : (a b : Bool) → same_part p x ≡ a → test x ≡ b → (a || among xs p) ≡ true
        → (among xs p ≡ true → among (filter test xs) p ≡ true)
        → among (cond b (x ∷ filter test xs) (filter test xs)) p ≡ true
    go true true e f is rest = or_left (same_part p x) (among (filter test xs) p) e
    go true false e f is rest = absurd (false≢true (sym f ∙ ap test (sym (part_is p x e)) ∙ passes))
    go false true e f is rest = or_right (same_part p x) (among (filter test xs) p) (rest is)
    go false false e f is rest = rest is

pub filtered : (test : Part → Bool) (xs : List Part) (p : Part) → among (filter test xs) p ≡ true → test p ≡ true
filtered test [] p is = absurd (cc)
filtered test (x ∷ xs) p is = go (test x) refl is (filtered test xs p)
  where
    by : (a : Bool) → same_part p x ≡ a → test x ≡ true → (a || among (filter test xs) p) ≡ true
        → (among (filter test xs) p ≡ true → test p ≡ true) → test p ≡ true
    by true e f is rest = ap test (part_is p x e) ∙ f
    by false e f is rest = rest is

    go : (b : Bool) → test x ≡ b → among (cond b (x ∷ filter test xs) (filter test xs)) p ≡ true
        → (among (filter test xs) p ≡ true → test p ≡ true) → test p ≡ true
    go true f is rest = by (same_part p x) refl f is rest
    go false f is rest = rest is

module _ (tip : Version) where
  -- the part is among these, and none of them is taken before it
  pub record IsLeast (ps : List Part) (p : Part) : Type 0 where
    pub is : among ps p ≡ true
    pub least : (q : Part) → among ps q ≡ true → comes_before tip q p ≡ false

  alone : (p : Part) → IsLeast (p ∷ []) p
  alone p = record {
    is = or_left (same_part p p) false (part_itself p);
    least = λ q is. by q (same_part q p) refl is;
  }
    where
      by : (q : Part) (b : Bool) → same_part q p ≡ b → (b || false) ≡ true → comes_before tip q p ≡ false
      by q true e is = subst (λ x. comes_before tip x p ≡ false) (sym (part_is q p e)) (not_itself tip p)
      by q false e is = absurd (cc)

  with_one : (p r : Part) (ps : List Part) (b : Bool) → comes_before tip r p ≡ b → IsLeast ps r
      → IsLeast (p ∷ ps) (cond b r p)
  with_one p r ps true e so = record {
    is = or_right (same_part r p) (among ps r) so.is;
    least = λ q is. by q (same_part q p) refl is;
  }
    where
      by : (q : Part) (b : Bool) → same_part q p ≡ b → (b || among ps q) ≡ true → comes_before tip q r ≡ false
      by q true f is = subst (λ x. comes_before tip x r ≡ false) (sym (part_is q p f)) (not_both tip r p e)
      by q false f is = so.least q is
  with_one p r ps false e so = record {
    is = or_left (same_part p p) (among ps p) (part_itself p);
    least = λ q is. by q (same_part q p) refl is;
  }
    where
      by : (q : Part) (b : Bool) → same_part q p ≡ b → (b || among ps q) ≡ true → comes_before tip q p ≡ false
      by q true f is = subst (λ x. comes_before tip x p ≡ false) (sym (part_is q p f)) (not_itself tip p)
      by q false f is = not_before tip q r p (so.least q is) e

  -- the first among some is the least of them
  pub first_least : (p : Part) (ps : List Part) → (r : Part) × (first_among tip (p ∷ ps) ≡ Some r) × IsLeast (p ∷ ps) r
  first_least p [] = (p, refl, alone p)
  first_least p (q ∷ ps) =
      let rest = first_least q ps in (
        sooner tip p (Some rest.0),
        ap (λ o. Some (sooner tip p o)) rest.1,
        with_one p rest.0 (q ∷ ps) (comes_before tip rest.0 p) refl rest.2,
      )

  pub least_one : (ps : List Part) (p q : Part) → IsLeast ps p → IsLeast ps q → p ≡ q
  least_one ps p q a b = one_first tip p q (b.least p a.is) (a.least q b.is)
