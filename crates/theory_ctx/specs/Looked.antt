-- Which fact a name means, among the facts that a theory sees (this project's own).
use Rattle.std.specs.Prelude.{◌==◌, ℕ, List, [], ◌∷◌, Option, Some, None}
use Rattle.std.specs.List.{slice_split}
use Rattle.theory_ctx.specs.Facts.{Fact, fact_of, facts_elsewhere}
use Rattle.theory_ctx.specs.Spelled.{long_name}
use Rattle.theory_ctx.specs.Answers.{Answer, found, unknown, ambiguous}

-- one fact is found, of several the first two are told
abbrev pub among : List Fact → Answer
among [] = unknown
among (fact ∷ []) = found (Some fact.0.theory) fact.0.name fact.1
among (first ∷ second ∷ others) =
    ambiguous (long_name first.0.theory first.0.name) (long_name second.0.theory second.0.name)

-- this fact where there is one, else what the others answer
abbrev pub first_of : Option Fact → List Fact → Answer
first_of (Some fact) others = among (fact ∷ [])
first_of None others = among others

-- the fact that a name means in the theory own, by the name's parts, among sorted facts
abbrev pub looked_by : List Fact → List ℕ → List (List ℕ) → Answer
-- n: the theory's own fact, else the imported ones, which lie in the order of their theories
looked_by facts own (n ∷ []) = first_of (fact_of own n facts) (facts_elsewhere own n facts)
-- T.n: the fact of T alone
looked_by facts own (t ∷ n ∷ []) = first_of (fact_of t n facts) []
looked_by facts own parts = unknown

-- a name cut at its dots
abbrev pub name_parts : List ℕ → List (List ℕ)
name_parts = slice_split (λ b. b == 46)

-- the fact that a name means in the theory own
abbrev pub looked : List Fact → List ℕ → List ℕ → Answer
looked facts own name = looked_by facts own (name_parts name)
