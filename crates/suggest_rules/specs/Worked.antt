-- Names and suggestions of small goals, computed (this project's own).
use Rattle.std.specs.Prelude.{◌≡◌, ℕ, List, [], ◌∷◌, ◌++◌, map, replicate, codes, Some, None}
use Rattle.nj_formula.specs.declared.formula.Formula.{Formula}
use Rattle.nj_formula.specs.declared.formula.Formula.TheVariants.{Atom, And, Implies}
use Rattle.theory_ctx.specs.declared.local.Local.{Local}
use Rattle.proof_terms.specs.declared.term.Term.{Term}
use Rattle.proof_terms.specs.declared.term.Term.TheVariants.{Fact, ImpI, ConjI, ConjE1, ConjE2}
use Rattle.suggest_rules.specs.Names.{citable, next_name}
use Rattle.suggest_rules.specs.Search.{suggested}
use Rattle.suggest_rules.specs.TermText.{by_text}

-- a proposition
abbrev pub prop : List ℕ → Formula
prop x = Atom x []

-- `P & Q --> Q & P`, and `((P --> Q) --> P) --> P`
abbrev pub swap : Formula
swap =
    Implies (And (prop (codes "P")) (prop (codes "Q"))) (And (prop (codes "Q")) (prop (codes "P")))

-- Peirce's law, which NJ does not prove
abbrev pub peirce : Formula
peirce =
    Implies (Implies (Implies (prop (codes "P")) (prop (codes "Q"))) (prop (codes "P")))
    (prop (codes "P"))

-- a name that stands nowhere
abbrev pub fact : List ℕ → Term
fact name = Fact (record { name = name; range = record { start = 0; stop = 0 } })

-- the proof of the first, whose only assumption has this name
abbrev pub swapped_by : List ℕ → Term
swapped_by h =
    ImpI h (ConjI (ConjE2 (prop (codes "P")) (fact h)) (ConjE1 (prop (codes "Q")) (fact h)))

-- a fact of this name that says `P`
abbrev pub says_p : List ℕ → Local
says_p name = record { name = name; formula = prop (codes "P") }

-- the names of the facts that may be cited, of those of these names
abbrev pub cited_of : List (List ℕ) → List (List ℕ)
cited_of names = map (λ local. local.name) (citable (map says_p names)).facts

-- a name of each letter
abbrev pub each_of : List ℕ → List (List ℕ)
each_of = map (λ c. c ∷ [])

-- the next name, under so many own assumptions and beside these names and aliases
abbrev pub next_of : List (List ℕ) → ℕ → List (List ℕ) → List ℕ
next_of aliases own names = next_name aliases (record { own = own; facts = map says_p names })

-- the number is that of the own assumptions, and `'` is added until the name is free
pub record NextNames : Type 0 where
  pub first : next_of [] 0 [] ≡ codes "h1"
  pub third : next_of [] 2 (codes "h2" ∷ codes "h1" ∷ []) ≡ codes "h3"
  pub beside_fact : next_of [] 0 (codes "a" ∷ codes "h1" ∷ []) ≡ codes "h1'"
  pub beside_both : next_of (codes "h1'" ∷ []) 0 (codes "h1" ∷ []) ≡ codes "h1''"
  pub beside_alias : next_of (codes "h2" ∷ []) 1 [] ≡ codes "h2'"

-- a name that is hidden is left out, and then only sixteen are taken
pub record CitedNames : Type 0 where
  pub hidden : cited_of (each_of (codes "abac")) ≡ each_of (codes "abc")
  pub hidden_first : cited_of (replicate 20 (codes "a") ++ codes "b" ∷ [])
      ≡ codes "a" ∷ codes "b" ∷ []
  pub sixteen : cited_of (each_of (codes "abcdefghijklmnopqrst"))
      ≡ each_of (codes "abcdefghijklmnop")

-- the suggestions of small goals, and the text of a proof
pub record Suggestions : Type 0 where
  pub swaps : suggested swap [] [] ≡ Some (swapped_by (codes "h1"))
  pub swaps_text : by_text (swapped_by (codes "h1"))
      ≡ codes "by (impI h1 (conjI (conjE2 \"P\" h1) (conjE1 \"Q\" h1)))"
  pub without_rule : suggested swap [] (codes "conjI" ∷ []) ≡ None
  pub renamed : suggested swap [] (codes "h1" ∷ []) ≡ Some (swapped_by (codes "h1'"))
  pub none : suggested peirce [] [] ≡ None
  pub no_fact : suggested (prop (codes "P")) [] [] ≡ None
