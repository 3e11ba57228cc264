-- Lists of statements: what is left of one, and whether a name is fresh in one.
use Rattle.std.specs.Prelude.{ℕ, Bool, not, List, filter}
use Rattle.std.specs.List.{list_any}
use Rattle.nj_formula.specs.Free.{is_free}
use Rattle.nj_formula.specs.Statement.{Statement}
use Rattle.proof_state.specs.Same.{decide, is_first}

-- the two are one statement
abbrev pub is_same : Statement → Statement → Bool
is_same a b = is_first (decide a b)

-- the statements but for this one, whether it was there or not
abbrev pub without : Statement → List Statement → List Statement
without a s = filter (λ b. not (is_same b a)) s

-- the name is free in one of them
abbrev pub is_free_among : List ℕ → List Statement → Bool
is_free_among x s = list_any (is_free x) s
