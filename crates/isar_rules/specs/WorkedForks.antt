-- What is reported of proofs that were forked, computed (this project's own).
use Rattle.std.specs.Prelude.{◌≡◌, [], ◌∷◌, codes}
use Rattle.nj_formula.specs.declared.formula.Formula.TheVariants.{Implies}
use Rattle.proof_state.specs.declared.levels.Levels.TheVariants.{Prove}
use Rattle.report_markup.specs.declared.kind.ReportKind.TheVariants as kind
use Rattle.isar_rules.specs.declared.state.Place.TheVariants as place
use Rattle.isar_rules.specs.declared.state.State.{State}
use Rattle.isar_rules.specs.Forks.{fork}
use Rattle.isar_rules.specs.Reports.{name_is, theory_is}
use Rattle.isar_rules.specs.Small.{said, state_at, in_theory, in_prove, prop, proving}
use Rattle.isar_rules.specs.WorkedTheories.{fact}
use Rattle.isar_rules.specs.WorkedProofs.{shown}

-- the goal `P --> P`
abbrev pub itself_goal : State
itself_goal = proving (Implies (prop (codes "P")) (prop (codes "P")))
    (Prove (Implies (prop (codes "P")) (prop (codes "P"))) [])

-- the goal `P` of the lemma `m`, behind the lemma `l` that says the same
abbrev pub behind_l : State
behind_l = state_at (place.Proof
    (record { name = codes "A"; facts = fact (codes "l") (codes "P") ∷ [] }) (codes "m")
    (prop (codes "P")) (Prove (prop (codes "P")) []))

-- proofs, and their first faults
pub record Forks : Type 0 where
  pub unknown : fork (codes "by x") in_prove ≡ said kind.Error 0 4 [] (codes "unknown name x") ∷ []
  pub no_term : fork (codes "by") in_prove ≡ said kind.Error 0 2 [] (codes "malformed proof") ∷ []
  pub behind_term : fork (codes "by x y") in_prove
      ≡ said kind.Error 0 6 [] (codes "malformed proof") ∷ []
  pub quoted : fork (codes "by (conjE1 \"P &\" x)") in_prove
      ≡ said kind.Error 0 19 [] (codes "bad formula at 3") ∷ []
  pub elsewhere : fork (codes "by x") in_theory ≡ []
  pub theory_fact : fork (codes "by l") behind_l
      ≡ said kind.Proved 0 4 [] []
      ∷ said kind.Ref 3 4 (theory_is (codes "A") ∷ name_is (codes "l") ∷ []) [] ∷ []
  pub local_fact : fork (codes "by h") shown
      ≡ said kind.Proved 0 4 [] [] ∷ said kind.Ref 3 4 (name_is (codes "h") ∷ []) [] ∷ []
  pub own_fact : fork (codes "by (impI h h)") itself_goal
      ≡ said kind.Proved 0 13 [] [] ∷ said kind.Ref 11 12 (name_is (codes "h") ∷ []) [] ∷ []
