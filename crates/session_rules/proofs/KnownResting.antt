-- The reader comes to rest: each part that it works on is one of those there were.
use Rattle.std.proofs.Common.{◌≡◌, ◌≢◌, ℕ, zero, suc, ◌+◌, ◌-◌, ◌<◌, ◌≤◌, Bool, true, false, List, [], ◌∷◌, length, Option, None, Some, refl, sym, ap, subst, ◌∙◌, arith}
use Rattle.std.proofs.lemmas.Bool.{leb-false, leb-true, ltb-false, ltb-true}
use Rattle.std.specs.Prelude.{nat_le, nat_lt}
use Rattle.pide_base.specs.declared.part.Part.{Part}
use Rattle.language.specs.Lang.{Lang}
use Rattle.core_rules.specs.declared.event.Event.{Event}
use Rattle.core_rules.specs.declared.event.Event.TheVariants.{Claimed, Finished}
use Rattle.core_rules.specs.Alone.{alone, finished_by, work}
use Rattle.core_rules.specs.Doc.{doc}
use Rattle.core_rules.specs.Ready.{all_parts, first_ready}

-- how many parts were finished
abbrev pub finishes : List Event → ℕ
finishes [] = 0
finishes (Finished who p ∷ h) = suc (finishes h)
finishes (other ∷ h) = finishes h

-- so many parts there were
abbrev pub made : {S : Type 0} → Lang S → List Event → ℕ
made l h = length (all_parts l (doc l h).homes)

-- the one list is the other, and then so many parts that the reader took first and finished
pub record IsWorkOn {S : Type 0} (l : Lang S) (from to : List Event) (steps : ℕ) : Type 0 where
  pub is : to ≡ alone l 0 steps from
  pub count : finishes to ≡ finishes from + steps

module _ {S : Type 0} (l : Lang S) (h : List Event) where
  -- at first none was
  pub work_first : IsWorkOn l h h 0
  work_first = record { is = refl; count = omega arith }

  -- one more
  pub work_next : (n : ℕ) (k m : List Event) (p : Part) → IsWorkOn l h k n → first_ready l k ≡ Some p → m ≡ Finished 0 p ∷ Claimed 0 p ∷ k
      → IsWorkOn l h m (suc n)
  work_next n k m p so first is =
      let worked : Finished 0 p ∷ Claimed 0 p ∷ k ≡ work l 0 k = ap (finished_by 0 k) (sym first) in
      let all : finishes m ≡ suc (finishes k) = ap finishes is in
      let before = so.count in
      record {
        is = is ∙ worked ∙ ap (work l 0) so.is;
        count = omega (arith, all, before);
      }

  rest_stays : (k : List Event) → first_ready l k ≡ None → first_ready l (work l 0 k) ≡ None
  rest_stays k none = ap (λ (o : Option Part). first_ready l (finished_by 0 k o)) none ∙ none

  rest_on : (n m : ℕ) → n ≤ m → first_ready l (alone l 0 n h) ≡ None → first_ready l (alone l 0 m h) ≡ None
  rest_on n zero within none = let same : n ≡ 0 = omega (arith, within) in subst (λ k. first_ready l (alone l 0 k h) ≡ None) same none
  rest_on n (suc m) within none = go (nat_le n m) refl (λ le. rest_on n m le none)
    where
      go : (b : Bool) → nat_le n m ≡ b → (n ≤ m → first_ready l (alone l 0 m h) ≡ None) → first_ready l (alone l 0 (suc m) h) ≡ None
      go true e before = rest_stays (alone l 0 m h) (before (leb-true n m e))
      go false e before =
          let more : m < n = leb-false n m e in
          let same : n ≡ suc m = omega (arith, within, more) in subst (λ k. first_ready l (alone l 0 k h) ≡ None) same none

  -- while a part is ready, there are more than were worked on
  pub fewer_steps : first_ready l (alone l 0 (made l h) h) ≡ None → (n : ℕ) (k : List Event) → IsWorkOn l h k n → first_ready l k ≢ None → n < made l h
  fewer_steps rests n k so ready = go (nat_lt n (made l h)) refl
    where
      go : (b : Bool) → nat_lt n (made l h) ≡ b → n < made l h
      go true e = ltb-true n (made l h) e
      go false e = absurd (ready (ap (first_ready l) so.is ∙ rest_on (made l h) n (ltb-false n (made l h) e) rests))

  -- so with each there are fewer left
  pub fewer_left : first_ready l (alone l 0 (made l h) h) ≡ None → (n : ℕ) (k m : List Event) (p : Part) → IsWorkOn l h k n → first_ready l k ≢ None
      → m ≡ Finished 0 p ∷ Claimed 0 p ∷ k → (finishes h + made l h) - finishes m < (finishes h + made l h) - finishes k
  fewer_left rests n k m p so ready is =
      let few = fewer_steps rests n k so ready in
      let count = so.count in
      let more : finishes m ≡ suc (finishes k) = ap finishes is in
      omega (arith, few, count, more)
