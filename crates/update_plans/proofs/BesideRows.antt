-- What comes of rows beside the rows at their places now.
use Rattle.std.proofs.Common.{◌≡◌, ◌⊎◌, inl, inr, ℕ, zero, suc, Bool, true, false, cond, not, List, [], ◌∷◌, ◌++◌, drop, Option, Some, refl, ap, sym, subst, ◌∙◌}
use Rattle.std.proofs.lemmas.Bool.{eq-eqb, false≢true}
use Rattle.std.specs.Prelude.{slice_get}
use Rattle.text_words.specs.Members.{has}
use Rattle.exec_rules.specs.declared.row.Row.{Row}
use Rattle.exec_rules.specs.Listed.{executions}
use Rattle.update_plans.specs.Rows.{beside, lost_of, lost}
use Rattle.update_plans.specs.Sights.{hidden_of, hidden}
use Rattle.update_plans.proofs.Members.{In, in_front, in_back, in_either, in_filter, in_has}

module _ {Y : Type 0} (of : Row → Option Row → List Y) where
  behind_one : (now : List Row) (i : ℕ) → slice_get (drop 1 now) i ≡ slice_get now (suc i)
  behind_one [] i = refl
  behind_one (r ∷ now) i = refl

  -- it comes of a row
  pub record OfRow (rows now : List Row) (y : Y) : Type 0 where
    pub place : ℕ
    pub row : Row
    pub at : slice_get rows place ≡ Some row
    pub is : In y (of row (slice_get now place))

  pub in_beside : (rows now : List Row) (y : Y) → In y (beside of rows now) → OfRow rows now y
  in_beside [] now y is = absurd is
  in_beside (row ∷ rows) now y is =
      go (in_either (of row (slice_get now 0)) (beside of rows (drop 1 now)) y is) (in_beside rows (drop 1 now) y)
    where
      go : In y (of row (slice_get now 0)) ⊎ In y (beside of rows (drop 1 now)) → (In y (beside of rows (drop 1 now)) → OfRow rows (drop 1 now) y)
          → OfRow (row ∷ rows) now y
      go (inl here) rest = record { place = zero; row = row; at = refl; is = here }
      go (inr there) rest =
          let r = rest there in record {
            place = suc r.place;
            row = r.row;
            at = r.at;
            is = subst (λ o. In y (of r.row o)) (behind_one now r.place) r.is;
          }

  pub beside_in : (rows now : List Row) (i : ℕ) (row : Row) (y : Y) → slice_get rows i ≡ Some row → In y (of row (slice_get now i))
      → In y (beside of rows now)
  beside_in [] now i row y at is = absurd (cc)
  beside_in (r ∷ rows) now zero row y at is =
      let same : r ≡ row = cc in
      in_front (of r (slice_get now 0)) (beside of rows (drop 1 now)) y (subst (λ x. In y (of x (slice_get now 0))) (sym same) is)
  beside_in (r ∷ rows) now (suc i) row y at is =
      in_back (of r (slice_get now 0)) (beside of rows (drop 1 now)) y
      (beside_in rows (drop 1 now) i row y at (subst (λ o. In y (of row o)) (sym (behind_one now i)) is))

  -- nothing comes of rows that stay
  pub beside_same : ((row : Row) → of row (Some row) ≡ []) → (rows : List Row) → beside of rows rows ≡ []
  beside_same none [] = refl
  beside_same none (row ∷ rows) = ap (λ (ys : List Y). ys ++ beside of rows rows) (none row) ∙ beside_same none rows

-- no list that nothing stands in has an item
empty : {Y : Type 0} (ys : List Y) → ((y : Y) → In y ys → ⊥) → ys ≡ []
empty [] none = refl
empty (y ∷ ys) none = absurd (none y (inl refl))

lost_none : (row : Row) → lost_of row (Some row) ≡ []
lost_none row = empty (lost_of row (Some row)) (λ e is.
    let r = in_filter (λ e. not (has (executions row) e)) (executions row) e is in
    go (has (executions row) e) (in_has (executions row) e r.0) r.1)
  where
    go : (b : Bool) → b ≡ true → not b ≡ true → ⊥
    go true a b = absurd (false≢true b)
    go false a b = absurd (false≢true a)

pub lost_same : (rows : List Row) → lost rows rows ≡ []
lost_same rows = beside_same lost_of lost_none rows

hidden_none : (row : Row) → hidden_of row (Some row) ≡ []
hidden_none row = ap (λ b. cond b [] (record { exec = row.evaluation; visible = false } ∷ [])) (eq-eqb row.evaluation row.evaluation refl)

pub hidden_same : (rows : List Row) → hidden rows rows ≡ []
hidden_same rows = beside_same hidden_of hidden_none rows
