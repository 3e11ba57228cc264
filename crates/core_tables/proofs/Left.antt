-- Rows that are as they were.
use Rattle.std.proofs.Common.{◌≡◌, ℕ, Bool, true, false, cond, List, refl, ap, ◌∙◌}
use Rattle.std.proofs.lemmas.Bool.{eqb-true}
use Rattle.std.specs.Prelude.{◌==◌}
use Rattle.core_tables.specs.Rows.{Row, execution_of, Updates}

-- an execution is as it was, and so are the others
pub unchanged : {R : Type 0} (old new : List (Row R)) (exec : ℕ) → Updates old new exec (execution_of old exec) → (e : ℕ) → execution_of new e ≡ execution_of old e
unchanged old new exec is e = is e ∙ go (exec == e) refl
  where
    go : (b : Bool) → (exec == e) ≡ b → cond b (execution_of old exec) (execution_of old e) ≡ execution_of old e
    go true same = ap (execution_of old) (eqb-true exec e same)
    go false same = refl
