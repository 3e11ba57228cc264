-- The finished parts of commands, one after the other.
use Rattle.std.proofs.Common.{◌≡◌, ◌⊎◌, inl, inr, ℕ, zero, suc, ◌+◌, ◌<◌, ◌≤◌, List, [], ◌∷◌, ◌++◌, length, drop, Option, refl, ap, sym, ◌∙◌, append_assoc, arith}
use Rattle.std.proofs.lemmas.Bool.{cases_lt}
use Rattle.std.specs.Prelude.{min, flat_map}
use Rattle.core_tables.specs.declared.execution.Execution.{Execution}
use Rattle.doc_nodes.specs.declared.node.Entry.{Entry}
use Rattle.core_rules.specs.exec_rules_below.declared.row.Row.{Row}
use Rattle.core_rules.specs.exec_rules_below.Listed.{executions}
use Rattle.core_rules.specs.Shown.{PartShown}
use Rattle.core_jobs.specs.declared.done.Done.{Done}
use Rattle.core_jobs.specs.Parts.{parts_known, rows_known}

module _ {S : Type 0} (table : ℕ → Option (Execution (Done S))) where
  -- one command more
  pub next_rows : (all parts now : List PartShown) (entry : Entry) (row : Row) (es more : List Entry) (rows rest : List Row)
      → es ≡ entry ∷ more → rows ≡ row ∷ rest → parts ++ rows_known table es rows ≡ all
      → now ≡ parts ++ flat_map (λ e. parts_known entry.range e (table e)) (executions row) → now ++ rows_known table more rest ≡ all
  next_rows all parts now entry row es more rows rest is are so grown = ap (λ xs. xs ++ rows_known table more rest) grown
      ∙ append_assoc parts (flat_map (λ e. parts_known entry.range e (table e)) (executions row)) (rows_known table more rest)
      ∙ ap (λ xs. parts ++ rows_known table xs (row ∷ rest)) (sym is) ∙ ap (λ xs. parts ++ rows_known table es xs) (sym are) ∙ so

  no_rows : (es : List Entry) → rows_known table es [] ≡ []
  no_rows [] = refl
  no_rows (e ∷ es) = refl

  nothing_left : {A : Type 0} (xs : List A) (n : ℕ) → length xs ≤ n → drop n xs ≡ []
  nothing_left [] zero le = refl
  nothing_left [] (suc n) le = refl
  nothing_left (x ∷ xs) zero le = absurd (omega (arith, le))
  nothing_left (x ∷ xs) (suc n) le = nothing_left xs n (omega (arith, le))

  -- no command is left
  pub rows_over : (es : List Entry) (rows : List Row) (place : ℕ) → min (length es) (length rows) ≤ place
      → rows_known table (drop place es) (drop place rows) ≡ []
  rows_over es rows place le = go (cases_lt place (length es))
    where
      go : (place < length es) ⊎ (length es ≤ place) → rows_known table (drop place es) (drop place rows) ≡ []
      go (inr over) = ap (λ xs. rows_known table xs (drop place rows)) (nothing_left es place over)
      go (inl lt) = ap (λ xs. rows_known table (drop place es) xs) (nothing_left rows place (omega (arith, lt, le)))
          ∙ no_rows (drop place es)
