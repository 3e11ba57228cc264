-- Local facts: which of them a name means, and how they hide the facts of theories (this project's
-- own).
use Rattle.std.specs.Prelude.{◌≡◌, ℕ, List, [], ◌∷◌, ◌++◌, find, Option, Some, None}
use Rattle.std.specs.List.{flat_map}
use Rattle.std.specs.Str.{bytes_eq}
use Rattle.shared_map.specs.Pairs.{found as found_at}
use Rattle.theory_ctx.specs.Facts.{Fact}
use Rattle.theory_ctx.specs.Order.{by_bytes}
use Rattle.theory_ctx.specs.declared.local.Local.{Local}
use Rattle.theory_ctx.specs.Answers.{Answer, found}
use Rattle.theory_ctx.specs.Looked.{name_parts, looked}

-- what a lookup goes through: local facts, the innermost first; a theory; the facts that it sees
pub record Scoped : Type 0 where
  pub locals : List Local
  pub theory : List ℕ
  pub facts : List Fact

-- local facts of its own, the innermost first, inside another scope
pub record Nested : Type 0 where
  pub own : List Local
  pub outer : Scoped

-- the scope that both are: the own local facts are the inner ones
abbrev pub seen : Nested → Scoped
seen scope = record scope.outer { locals = scope.own ++ scope.outer.locals }

-- the first local fact n
abbrev pub first_named : List ℕ → List Local → Option Local
first_named n = find (λ local. bytes_eq local.name n)

-- a map has, for each name, the first local fact of it
abbrev pub AreFirst : List (List ℕ × Local) → List Local → Type 0
AreFirst map locals = (n : List ℕ) → found_at by_bytes n map ≡ first_named n locals

-- the local facts of several blocks, the innermost block first
abbrev pub joined : List (List Local) → List Local
joined = flat_map (λ locals. locals)

-- the innermost local fact n; a name of several parts means none
abbrev pub local_of : List Local → List (List ℕ) → Option Local
local_of locals (n ∷ []) = first_named n locals
local_of locals parts = None

-- the local fact where there is one, else what the theory answers
abbrev pub local_first : Option Local → Answer → Answer
local_first (Some local) answer = found None local.name local.formula
local_first None answer = answer

-- the fact that a name means in a scope
abbrev pub looked_in : Scoped → List ℕ → Answer
looked_in scope name =
    local_first (local_of scope.locals (name_parts name)) (looked scope.facts scope.theory name)
