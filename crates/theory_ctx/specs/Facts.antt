-- Facts by their theory and their name.
use Rattle.std.specs.Prelude.{ℕ, Bool, not, ◌&&◌, List, filter, find, Option}
use Rattle.std.specs.Str.{bytes_eq}
use Rattle.nj_formula.specs.declared.formula.Formula.{Formula}
use Rattle.theory_ctx.specs.declared.fact_name.FactName.{FactName}

-- a fact: its name with the theory that made it, and what it says
abbrev pub Fact : Type 0
Fact = FactName × Formula

-- the fact is called n in the theory t
abbrev pub is_called : List ℕ → List ℕ → Fact → Bool
is_called t n fact = bytes_eq fact.0.theory t && bytes_eq fact.0.name n

-- the fact n of the theory t
abbrev pub fact_of : List ℕ → List ℕ → List Fact → Option Fact
fact_of t n = find (is_called t n)

-- the fact is called n in another theory than t
abbrev pub is_import : List ℕ → List ℕ → Fact → Bool
is_import t n fact = not (bytes_eq fact.0.theory t) && bytes_eq fact.0.name n

-- the facts n of other theories than t
abbrev pub facts_elsewhere : List ℕ → List ℕ → List Fact → List Fact
facts_elsewhere t n = filter (is_import t n)
