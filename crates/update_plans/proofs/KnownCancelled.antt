-- What is cancelled by a table.
use Rattle.std.proofs.Common.{◌≡◌, inl, inr, ℕ, Bool, true, false, cond, List, [], ◌∷◌, map, Option, Some, None, refl, sym, ◌∙◌}
use Rattle.std.proofs.lemmas.Bool.{eqb-true, false≢true, false_from_ne_true}
use Rattle.std.specs.Prelude.{◌==◌}
use Rattle.std.specs.Option.{option_map_or}
use Rattle.text_words.specs.Members.{has}
use Rattle.core_tables.specs.declared.execution.Execution.{Execution}
use Rattle.core_tables.specs.Rows.{Row, execution_of}
use Rattle.update_plans.specs.Cancelled.{is_cancelled, cancelled_in}
use Rattle.update_plans.proofs.Members.{In, has_in, in_has, in_filter, filter_in}

module _ {R : Type 0} where
  -- an execution that is found stands in a row
  found_in : (rows : List (Row R)) (e : ℕ) (one : Execution R) → execution_of rows e ≡ Some one → In e (map (λ (row : Row R). row.0) rows)
  found_in [] e one is = absurd (cc)
  found_in (row ∷ rows) e one is = go (e == row.0) refl is (found_in rows e one)
    where
      go : (b : Bool) → (e == row.0) ≡ b → cond b (Some row.1) (execution_of rows e) ≡ Some one
          → (execution_of rows e ≡ Some one → In e (map (λ (r : Row R). r.0) rows)) → In e (map (λ (r : Row R). r.0) (row ∷ rows))
      go true same is rest = inl (sym (eqb-true e row.0 same))
      go false other is rest = inr (rest is)

  -- the list has what the table tells to be cancelled
  pub has_cancelled : (rows : List (Row R)) (e : ℕ) → has (cancelled_in rows) e ≡ is_cancelled rows e
  has_cancelled rows e = go (is_cancelled rows e) refl
    where
      found : (o : Option (Execution R)) → execution_of rows e ≡ o → option_map_or (λ (one : Execution R). one.cancelled) o false ≡ true
          → In e (map (λ (row : Row R). row.0) rows)
      found None at is = absurd (false≢true is)
      found (Some one) at is = found_in rows e one at

      go : (b : Bool) → is_cancelled rows e ≡ b → has (cancelled_in rows) e ≡ b
      go true is = in_has (cancelled_in rows) e
          (filter_in (is_cancelled rows) (map (λ (row : Row R). row.0) rows) e (found (execution_of rows e) refl is) is)
      go false is = false_from_ne_true (has (cancelled_in rows) e) (λ there.
          false≢true (sym is ∙ (in_filter (is_cancelled rows) (map (λ (row : Row R). row.0) rows) e (has_in (cancelled_in rows) e there)).1))
