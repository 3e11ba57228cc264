-- New executions, one after the other from the last, and what they wait for.
use Rattle.std.proofs.Common.{◌≡◌, ℕ, suc, ◌+◌, ◌<◌, ◌≤◌, Bool, true, false, not, List, [], ◌∷◌, ◌++◌, length, take, get_or, reverse, Option, Some, None, refl, ap, sym, subst, ◌∙◌, arith, append_assoc, append-nil}
use mathlib.Core.Bool.{or_assoc}
use Rattle.std.proofs.lemmas.List.{reverse-append, length-append, take_more}
use Rattle.std.specs.Prelude.{◌&&◌, ◌||◌, filter_map}
use Rattle.std.specs.List.{cons_option}
use Rattle.std.proofs.Math.Bool.{or-false}
use Rattle.core_tables.specs.Rows.{Row}
use Rattle.text_words.specs.Members.{has}
use Rattle.exec_rules.specs.declared.key.Last.{Last}
use Rattle.exec_rules.specs.declared.home.Home.{Home}
use Rattle.core_rules.specs.Parts.{last_evaluation}
use Rattle.update_plans.specs.declared.beginning.Fresh.{Fresh}
use Rattle.update_plans.specs.Begun.{is_evaluated, AddsUnfinished, IsBegun, AreBegun}
use Rattle.text_words.proofs.KnownMembers.{has_both}

made_both : (xs ys : List Last) → filter_map last_evaluation (xs ++ ys) ≡ filter_map last_evaluation xs ++ filter_map last_evaluation ys
made_both [] ys = refl
made_both (x ∷ xs) ys = go (last_evaluation x) (made_both xs ys)
  where
    go : (o : Option ℕ)
        → filter_map last_evaluation (xs ++ ys) ≡ filter_map last_evaluation xs ++ filter_map last_evaluation ys
        → cons_option o (filter_map last_evaluation (xs ++ ys)) ≡ cons_option o (filter_map last_evaluation xs) ++ filter_map last_evaluation ys
    go None rest = rest
    go (Some e) rest = ap (λ (zs : List ℕ). e ∷ zs) rest

pub pop_length : (old new : List Home) (home : Home) → old ≡ new ++ home ∷ [] → length old ≡ suc (length new)
pop_length old new home is = omega (arith, ap (λ (xs : List Home). length xs) is, length-append new (home ∷ []))

module _ {R : Type 0} (rows : List (Row R)) where
  -- no source is added
  pub adds_none : (old : List ℕ) → AddsUnfinished rows [] old old
  adds_none old f = sym (or-false (has old f))

  -- more sources are added behind others
  pub adds_both : (xs ys old mid new : List ℕ) → AddsUnfinished rows xs old mid → AddsUnfinished rows ys mid new → AddsUnfinished rows (xs ++ ys) old new
  adds_both xs ys old mid new first then f =
      then f ∙ ap (λ b. b || (has ys f && not (is_evaluated rows f))) (first f)
      ∙ or_assoc (has old f) (has xs f && not (is_evaluated rows f)) (has ys f && not (is_evaluated rows f))
      ∙ ap (λ b. has old f || b) (sym (spread (has xs f) (has ys f) (not (is_evaluated rows f)))
      ∙ ap (λ b. b && not (is_evaluated rows f)) (sym (has_both xs ys f)))
    where
      spread : (a b c : Bool) → ((a || b) && c) ≡ ((a && c) || (b && c))
      spread true true true = refl
      spread true true false = refl
      spread true false true = refl
      spread true false false = refl
      spread false b c = refl

  -- one import more
  pub adds_more : (lasts : List Last) (i : ℕ) (last : Last) (old mid new : List ℕ) → i < length lasts → last ≡ get_or lasts i last
      → AddsUnfinished rows (filter_map last_evaluation (take i lasts)) old mid → AddsUnfinished rows (filter_map last_evaluation (last ∷ [])) mid new
      → AddsUnfinished rows (filter_map last_evaluation (take (i + 1) lasts)) old new
  adds_more lasts i last old mid new lt is first then =
      subst (λ (xs : List ℕ). AddsUnfinished rows xs old new)
      (sym (made_both (take i lasts) (last ∷ []))
      ∙ ap (λ (l : Last). filter_map last_evaluation (take i lasts ++ l ∷ [])) is
      ∙ ap (filter_map last_evaluation) (sym (take_more lasts i last lt)))
      (adds_both (filter_map last_evaluation (take i lasts))
      (filter_map last_evaluation (last ∷ [])) old mid new first then)

  -- what is left to be begun
  pub record IsLeft (next : ℕ) (all rest : List Home) (begun : List Fresh) : Type 0 where
    pub more : List Home
    pub whole : rest ++ more ≡ all
    pub are : AreBegun rows (next + length rest) more (reverse begun)

  pub none_begun : (next : ℕ) (homes : List Home) (none : List Fresh) → none ≡ [] → IsLeft next homes homes none
  none_begun next homes none is = record {
    more = [];
    whole = append-nil homes;
    are = subst (λ (xs : List Fresh). AreBegun rows (next + length homes) [] (reverse xs)) (sym is) tt;
  }

  pub left_length : (next : ℕ) (all rest : List Home) (begun : List Fresh) → IsLeft next all rest begun → length rest ≤ length all
  left_length next all rest begun left = omega (arith, ap (λ (xs : List Home). length xs) left.whole, length-append rest left.more)

  -- one more, from the back
  pub one_begun : (next : ℕ) (all old new : List Home) (home : Home) (begun more : List Fresh) (one : Fresh) → old ≡ new ++ home ∷ []
      → more ≡ begun ++ one ∷ [] → IsBegun rows (next + length new) home one → IsLeft next all old begun → IsLeft next all new more
  one_begun next all old new home begun more one eo em is left = record {
    more = home ∷ left.more;
    whole = sym (append_assoc new (home ∷ []) left.more) ∙ ap (λ (xs : List Home). xs ++ left.more) (sym eo) ∙ left.whole;
    are = subst (AreBegun rows (next + length new) (home ∷ left.more)) (sym turned)
        (is, subst (λ n. AreBegun rows n left.more (reverse begun)) count left.are);
  }
    where
      count : next + length old ≡ suc (next + length new)
      count = omega (arith, ap (λ (xs : List Home). length xs) eo, length-append new (home ∷ []))

      turned : reverse more ≡ one ∷ reverse begun
      turned = ap (λ (xs : List Fresh). reverse xs) em ∙ reverse-append begun (one ∷ [])

  pub all_begun : (next : ℕ) (all rest : List Home) (begun : List Fresh) → rest ≡ [] → IsLeft next all rest begun → AreBegun rows next all (reverse begun)
  all_begun next all rest begun none left =
      let same : left.more ≡ all = ap (λ (xs : List Home). xs ++ left.more) (sym none) ∙ left.whole in
      let first : next + length rest ≡ next = omega (arith, ap (λ (xs : List Home). length xs) none) in
      subst (λ hs. AreBegun rows next hs (reverse begun)) same (subst (λ n. AreBegun rows n left.more (reverse begun)) first left.are)
