-- Which commands are refused at which places, computed (this project's own).
use Rattle.std.specs.Prelude.{◌≡◌, ℕ, List, [], ◌∷◌, ◌++◌, map, replicate, codes}
use Rattle.isar_rules.specs.declared.state.State.{State}
use Rattle.isar_rules.specs.Errors.{malformed, not_allowed}
use Rattle.isar_rules.specs.Small.{errors, at_start, outside, in_theory, in_prove, in_block, at_end}

-- each command in its shape
abbrev pub commands : List (List ℕ)
commands = codes "theory A begin" ∷ codes "end" ∷ codes "axiom a: \"P\"" ∷ codes "lemma m: \"P\""
    ∷ codes "load \"x\"" ∷ codes "proof" ∷ codes "fix x" ∷ codes "assume \"P\"" ∷ codes "have \"P\""
    ∷ codes "show \"P\"" ∷ codes "next" ∷ codes "qed" ∷ codes "by h" ∷ []

-- its errors in a state
abbrev pub all_errors : State → List (List (List ℕ))
all_errors state = map (λ source. errors source state) commands

-- so many commands that are not allowed
abbrev pub refused : ℕ → List (List (List ℕ))
refused n = replicate n (not_allowed ∷ [])

-- so many commands without an error
abbrev pub accepted : ℕ → List (List (List ℕ))
accepted n = replicate n []

-- a blob that is not there
abbrev pub no_blob : List (List (List ℕ))
no_blob = (codes "unknown blob x" ∷ []) ∷ []

-- a formula that is no subgoal
abbrev pub no_subgoal : List (List (List ℕ))
no_subgoal = (codes "no such subgoal" ∷ []) ∷ []

-- each command in each state
pub record EachPlace : Type 0 where
  pub start : all_errors at_start ≡ accepted 1 ++ refused 12
  pub outside : all_errors outside ≡ refused 13
  pub theory : all_errors in_theory ≡ refused 1 ++ (accepted 3 ++ (no_blob ++ refused 8))
  pub prove : all_errors in_prove ≡ refused 5 ++ (accepted 1 ++ (refused 6 ++ accepted 1))
  pub block : all_errors (in_block [])
      ≡ refused 6 ++ (accepted 3 ++ (no_subgoal ++ (accepted 2 ++ refused 1)))
  pub end : all_errors at_end ≡ refused 13

-- each command but `by` in another shape
abbrev pub misshapen : List (List ℕ)
misshapen = codes "theory begin" ∷ codes "end x" ∷ codes "axiom a \"P\"" ∷ codes "lemma \"P\""
    ∷ codes "load x" ∷ codes "proof x" ∷ codes "fix \"x\"" ∷ codes "assume h \"P\""
    ∷ codes "have : \"P\"" ∷ codes "show h: \"P\"" ∷ codes "next x" ∷ codes "qed x" ∷ codes "x" ∷ []

-- the shape is judged first, then the place, then the rest
pub record FirstErrors : Type 0 where
  pub shape : map (λ source. errors source at_end) misshapen ≡ replicate 13 (malformed ∷ [])
  pub axiom_place : errors (codes "axiom a: \"P &\"") in_prove ≡ not_allowed ∷ []
  pub lemma_place : errors (codes "lemma a: \"P &\"") outside ≡ not_allowed ∷ []
  pub assume_place : errors (codes "assume \"P &\"") in_theory ≡ not_allowed ∷ []
  pub have_place : errors (codes "have \"P &\"") in_prove ≡ not_allowed ∷ []
  pub show_place : errors (codes "show \"P &\"") in_prove ≡ not_allowed ∷ []
  pub theory_place : errors (codes "theory B imports C begin") in_theory ≡ not_allowed ∷ []
