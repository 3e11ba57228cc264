-- Each part has one holder at most, and each worker holds one part at most.
use Rattle.std.proofs.Common.{◌≡◌, ◌≢◌, ◌↔◌, ℕ, Bool, true, false, cond, ◌&&◌, List, [], ◌∷◌, Option, Some, None, refl, ap, sym, ◌∙◌}
use Rattle.std.proofs.lemmas.Bool.{eqb-true, eq-eqb, false≢true, and_parts}
use Rattle.std.specs.Prelude.{◌==◌}
use Rattle.pide_base.specs.declared.part.Part.{Part}
use Rattle.language.specs.Lang.{Lang}
use Rattle.core_rules.specs.declared.event.Event.{Event}
use Rattle.core_rules.specs.declared.event.Event.TheVariants as event
use Rattle.core_rules.specs.Parts.{same_part}
use Rattle.core_rules.specs.Standing.{Standing, Free, Held, Done, standing, is_unclaimed, held}
use Rattle.core_rules.specs.Doc.{doc}
use Rattle.core_rules.specs.Ready.{is_part, is_wanted, has_inputs, IsFirst}
use Rattle.core_rules.specs.Legal.{IsLegal}
use Rattle.core_rules.proofs.KnownParts.{part_is, part_itself}

-- what a worker holds, and who holds a part, are told by each other
abbrev pub Tells : (ℕ → Option Part) → (Part → Standing) → Type 0
Tells holds stands = (w : ℕ) (p : Part) → (holds w ≡ Some p) ↔ (stands p ≡ Held w)

pub held_is : (v w : ℕ) → Held v ≡ Held w → v ≡ w
held_is v w e = cc

free_by : (s : Standing) → is_unclaimed s ≡ true → s ≡ Free
free_by Free e = refl
free_by (Held w) e = absurd (cc)
free_by Done e = absurd (cc)

module _ (holds : ℕ → Option Part) (stands : Part → Standing) (tells : Tells holds stands) (who : ℕ) (q : Part) where
  -- a free worker takes a free part
  module _ (nothing : holds who ≡ None) (free : stands q ≡ Free) where
    takes : (w : ℕ) (p : Part) (b c : Bool) → (who == w) ≡ b → same_part q p ≡ c
        → (cond b (Some q) (holds w) ≡ Some p) ↔ (cond c (Held who) (stands p) ≡ Held w)
    takes w p true true e f = (λ x. ap Held (eqb-true who w e), λ x. ap (λ y. Some y) (part_is q p f))
    takes w p true false e f = (
      λ x. let same : q ≡ p = cc in
          absurd (false≢true (sym f ∙ ap (same_part q) (sym same) ∙ part_itself q)),
      λ x. let held = (tells w p).1 x in let free = ap holds (sym (eqb-true who w e)) ∙ nothing in absurd (cc),
    )
    takes w p false true e f = (
      λ x. let held = (tells w p).0 x in let open_ = ap stands (sym (part_is q p f)) ∙ free in absurd (cc),
      λ x. absurd (false≢true (sym e ∙ eq-eqb who w (held_is who w x))),
    )
    takes w p false false e f = tells w p

    pub taking : Tells (λ w. cond (who == w) (Some q) (holds w)) (λ p. cond (same_part q p) (Held who) (stands p))
    taking w p = takes w p (who == w) (same_part q p) refl refl

  -- a worker lets its part go
  module _ (has_it : holds who ≡ Some q) (left : Standing) (other : (w : ℕ) → left ≢ Held w) where
    leaves : (w : ℕ) (p : Part) (b c : Bool) → (who == w) ≡ b → same_part q p ≡ c
        → (cond b None (holds w) ≡ Some p) ↔ (cond c left (stands p) ≡ Held w)
    leaves w p true true e f = (λ x. absurd (cc), λ x. absurd (other w x))
    leaves w p true false e f = (
      λ x. absurd (cc),
      λ x. let held = (tells w p).1 x in
          let mine = ap holds (sym (eqb-true who w e)) ∙ has_it in
          let same : q ≡ p = cc in
          absurd (false≢true (sym f ∙ ap (same_part q) (sym same) ∙ part_itself q)),
    )
    leaves w p false true e f = (
      λ x. let held = (tells w p).0 x in
          let mine = ap stands (sym (part_is q p f)) ∙ (tells who q).0 has_it in
          let same : Held who ≡ Held w = cc in
          absurd (false≢true (sym e ∙ eq-eqb who w (held_is who w same))),
      λ x. absurd (other w x),
    )
    leaves w p false false e f = tells w p

    pub leaving : Tells (λ w. cond (who == w) None (holds w)) (λ p. cond (same_part q p) left (stands p))
    leaving w p = leaves w p (who == w) (same_part q p) refl refl

-- a ready part is free
pub first_free : {S : Type 0} (l : Lang S) (h : List Event) (p : Part) → IsFirst l h p → standing h p ≡ Free
first_free l h p first =
    let a = and_parts (is_part l (doc l h).homes p) (is_wanted (doc l h) p.exec
    && (is_unclaimed (standing h p) && has_inputs h (doc l h).homes p)) first.ready in
    let b = and_parts (is_wanted (doc l h) p.exec)
    (is_unclaimed (standing h p) && has_inputs h (doc l h).homes p) a.1 in
    let c = and_parts (is_unclaimed (standing h p)) (has_inputs h (doc l h).homes p) b.1 in
    free_by (standing h p) c.0

pub tells_all : {S : Type 0} (l : Lang S) (h : List Event) → IsLegal l h → Tells (held h) (standing h)
tells_all l [] legal = λ w p. (λ x. absurd (cc), λ x. absurd (cc))
tells_all l (event.Update id nodes blobs ∷ h) legal = tells_all l h legal.0
tells_all l (event.Cancel e ∷ h) legal = tells_all l h legal.0
tells_all l (event.Remove ids ∷ h) legal = tells_all l h legal.0
tells_all l (event.Claimed who q ∷ h) legal =
    taking (held h) (standing h) (tells_all l h legal.0) who q legal.1.1 (first_free l h q legal.1.2)
tells_all l (event.Finished who q ∷ h) legal =
    leaving (held h) (standing h) (tells_all l h legal.0) who q legal.1.0 Done (λ w e. absurd (cc))
tells_all l (event.Dropped who q ∷ h) legal =
    leaving (held h) (standing h) (tells_all l h legal.0) who q legal.1.0 Free (λ w e. absurd (cc))
tells_all l (event.Ended ∷ h) legal = tells_all l h legal.0
