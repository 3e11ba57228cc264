-- What is printed in small theories, computed (this project's own).
use Rattle.std.specs.Prelude.{◌≡◌, ℕ, List, [], ◌∷◌, ◌++◌, codes}
use Rattle.nj_formula.specs.declared.formula.Formula.{Formula}
use Rattle.nj_formula.specs.declared.formula.Formula.TheVariants.{And, Implies}
use Rattle.proof_state.specs.declared.levels.Levels.TheVariants.{Prove, State as Stated}
use Rattle.proof_state.specs.declared.subgoal.Subgoal.TheVariants.{AssumeShow}
use Rattle.suggest_rules.specs.Worked.{swap, peirce}
use Rattle.report_markup.specs.declared.kind.ReportKind.TheVariants as kind
use Rattle.isar_rules.specs.declared.state.State.{State}
use Rattle.isar_rules.specs.Shown.{print}
use Rattle.isar_rules.specs.Small.{said, at_start, outside, in_theory, in_prove, at_end, prop, proving}

-- `P & Q`, for two propositions
abbrev pub both : List ℕ → List ℕ → Formula
both p q = And (prop p) (prop q)

-- a proof of `A & B --> B & A`, behind `proof`
abbrev pub swapped : State
swapped = proving (Implies (both (codes "A") (codes "B")) (both (codes "B") (codes "A")))
    (Stated (record {
      goal = Implies (both (codes "A") (codes "B")) (both (codes "B") (codes "A"));
      pending = AssumeShow (both (codes "A") (codes "B")) (both (codes "B") (codes "A")) ∷ [];
      variables = [];
      facts = [];
    }) [])

-- a lemma whose goal is open
abbrev pub open_goal : Formula → State
open_goal goal = proving goal (Prove goal [])

-- the print of each place
pub record Prints : Type 0 where
  pub start : print (codes "end") at_start ≡ said kind.State 0 3 [] (codes "no theory") ∷ []
  pub outside : print (codes "end") outside ≡ said kind.State 0 3 [] (codes "no theory") ∷ []
  pub theory : print (codes "theory A begin") in_theory
      ≡ said kind.State 0 14 [] (codes "theory A") ∷ []
  pub end : print (codes "end") at_end ≡ said kind.State 0 3 [] (codes "theory A ended") ∷ []
  pub prove : print (codes "lemma l: \"P\"") in_prove
      ≡ said kind.State 0 12 [] (codes "prove: P") ∷ []
  pub block : print (codes "proof") swapped ≡ said kind.State 0 5 []
      (codes "state: A & B --> B & A"
      ++ (10 ∷ codes "subgoal: assume A & B show B & A")) ∷ []

-- a proof is suggested where one is found
pub record SuggestingPrints : Type 0 where
  pub found : print (codes "lemma l: \"P & Q --> Q & P\"") (open_goal swap)
      ≡ said kind.State 0 26 [] (codes "prove: P & Q --> Q & P")
      ∷ said kind.Suggest 0 26 []
      (codes "by (impI h1 (conjI (conjE2 \"P\" h1) (conjE1 \"Q\" h1)))") ∷ []
  pub none : print (codes "lemma l: \"((P --> Q) --> P) --> P\"") (open_goal peirce)
      ≡ said kind.State 0 34 [] (codes "prove: ((P --> Q) --> P) --> P") ∷ []
