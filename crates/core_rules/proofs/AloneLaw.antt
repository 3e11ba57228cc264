-- One worker that always takes the first ready part comes to rest, and has only one way.
use Rattle.std.proofs.Common.{◌≡◌, ◌⊎◌, inl, inr, ℕ, zero, suc, ◌+◌, ◌≤◌, true, false, cond, ◌&&◌, List, ◌∷◌, length, Option, Some, None, refl, ap, sym, subst, ◌∙◌, arith}
use Rattle.std.proofs.lemmas.Bool.{eq-eqb, and_parts}
use Rattle.std.specs.Prelude.{◌==◌}
use Rattle.pide_base.specs.declared.part.Part.{Part}
use Rattle.language.specs.Lang.{Lang}
use Rattle.core_rules.specs.declared.event.Event.{Event}
use Rattle.core_rules.specs.declared.event.Event.TheVariants.{Claimed, Finished}
use Rattle.core_rules.specs.Standing.{standing, is_done, is_unclaimed, is_finished, held, has_ended}
use Rattle.core_rules.specs.Doc.{Doc, doc}
use Rattle.core_rules.specs.Ready.{is_part, is_wanted, has_inputs, IsFirst, all_parts, first_ready}
use Rattle.core_rules.specs.Legal.{IsLegal}
use Rattle.core_rules.specs.Alone.{finished_by, work, alone, IsAlone}
use Rattle.core_rules.proofs.Holders.{first_free}
use Rattle.core_rules.proofs.FirstReady.{among}
use Rattle.core_rules.proofs.FirstLaw.{given_first, first_given, is_made}
use Rattle.core_rules.proofs.Left.{left, left_within, some_left, fewer}

module _ {S : Type 0} (l : Lang S) (who : ℕ) where
  same_doc : (h : List Event) (o : Option Part) → doc l (finished_by who h o) ≡ doc l h
  same_doc h None = refl
  same_doc h (Some p) = refl

  alone_doc : (h : List Event) (n : ℕ) → doc l (alone l who n h) ≡ doc l h
  alone_doc h zero = refl
  alone_doc h (suc n) = same_doc (alone l who n h) (first_ready l (alone l who n h)) ∙ alone_doc h n

  unfinished : (h : List Event) (p : Part) → IsFirst l h p → is_finished h p ≡ false
  unfinished h p first = ap is_done (first_free l h p first)

  listed : (h : List Event) (p : Part) → IsFirst l h p → among (all_parts l (doc l h).homes) p ≡ true
  listed h p first = is_made l (doc l h).homes p
      (and_parts (is_part l (doc l h).homes p) (is_wanted (doc l h) p.exec
      && (is_unclaimed (standing h p) && has_inputs h (doc l h).homes p)) first.ready).0

  module _ (h : List Event) where
    abbrev parts : List Part
    parts = all_parts l (doc l h).homes

    -- it rests, or each step left fewer
    abbrev Goes : ℕ → List Event → Type 0
    Goes n k = (first_ready l k ≡ None) ⊎ (left k parts + n ≤ left h parts)

    goes_on : (n : ℕ) (k : List Event) → doc l k ≡ doc l h → (o : Option Part) → first_ready l k ≡ o → Goes n k
        → Goes (suc n) (finished_by who k o)
    goes_on n k same None e so = inl e
    goes_on n k same (Some p) e (inl none) = absurd (cc)
    goes_on n k same (Some p) e (inr le) =
        let first = given_first l k p e in
        let there : among parts p ≡ true =
        ap (λ (d : Doc). among (all_parts l d.homes) p) (sym same) ∙ listed k p first in
        let less = fewer k who p parts there (unfinished k p first) in
        inr (omega (arith, le, less))

    goes : (n : ℕ) → Goes n (alone l who n h)
    goes zero = inr (omega arith)
    goes (suc n) = goes_on n (alone l who n h) (alone_doc h n) (first_ready l (alone l who n h)) refl (goes n)

    rests_by : (k : List Event) → doc l k ≡ doc l h → (o : Option Part) → first_ready l k ≡ o → Goes (length parts) k → o ≡ None
    rests_by k same None e so = refl
    rests_by k same (Some p) e (inl none) = absurd (cc)
    rests_by k same (Some p) e (inr le) =
        let first = given_first l k p e in
        let there : among parts p ≡ true =
        ap (λ (d : Doc). among (all_parts l d.homes) p) (sym same) ∙ listed k p first in
        let some = some_left k parts p there (unfinished k p first) in
        absurd (omega (arith, le, some, left_within h parts))

    pub alone_rests : first_ready l (alone l who (length parts) h) ≡ None
    alone_rests = rests_by (alone l who (length parts) h) (alone_doc h (length parts))
        (first_ready l (alone l who (length parts) h)) refl (goes (length parts))

    -- legal, and the worker holds nothing
    abbrev MayGo : List Event → Type 0
    MayGo k = IsLegal l k × (held k who ≡ None) × (has_ended k ≡ false)

    step_legal : (k : List Event) (o : Option Part) → first_ready l k ≡ o → MayGo k → MayGo (finished_by who k o)
    step_legal k None e so = so
    step_legal k (Some p) e so =
        let first = given_first l k p e in
        let wanted = and_parts (is_wanted (doc l k) p.exec)
        (is_unclaimed (standing k p) && has_inputs k (doc l k).homes p)
        (and_parts (is_part l (doc l k).homes p) (is_wanted (doc l k) p.exec
        && (is_unclaimed (standing k p) && has_inputs k (doc l k).homes p)) first.ready).1 in
        let mine : (who == who) ≡ true = eq-eqb who who refl in (
          (
            (so.0, (so.2, so.1, first)),
            (ap (λ b. cond b (Some p) (held k who)) mine, wanted.0),
          ),
          ap (λ b. cond b None (cond b (Some p) (held k who))) mine,
          so.2,
        )

    pub alone_legal : (n : ℕ) → IsLegal l h → held h who ≡ None → has_ended h ≡ false → MayGo (alone l who n h)
    alone_legal zero legal free ended = (legal, free, ended)
    alone_legal (suc n) legal free ended =
        step_legal (alone l who n h) (first_ready l (alone l who n h)) refl (alone_legal n legal free ended)

    -- each legal list of this kind is this one
    pub one_way : (n : ℕ) (k : List Event) → IsLegal l k → IsAlone who h n k → k ≡ alone l who n h
    one_way zero k legal is = is
    one_way (suc n) k legal is =
        let p : Part = is.0 in
        let m : List Event = is.1 in
        let all : IsLegal l (Finished who p ∷ Claimed who p ∷ m) = subst (IsLegal l) is.2 legal in
        let before = one_way n m all.0.0 is.3 in
        is.2 ∙ sym (ap (finished_by who m) (first_given l m p all.0.1.2)) ∙ ap (work l who) before
