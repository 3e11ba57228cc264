-- What the commands of a small proof make, computed (this project's own).
use Rattle.std.specs.Prelude.{◌≡◌, true, false, List, [], ◌∷◌, codes, Some, None}
use Rattle.nj_formula.specs.declared.formula.Formula.{Formula}
use Rattle.nj_formula.specs.declared.formula.Formula.TheVariants.{Not, Implies}
use Rattle.proof_state.specs.declared.block.Block.{Block}
use Rattle.proof_state.specs.declared.frame.Purpose.TheVariants as purpose
use Rattle.proof_state.specs.declared.local_fact.Origin.TheVariants.{Assumed}
use Rattle.proof_state.specs.declared.local_fact.LocalFact.{LocalFact}
use Rattle.proof_state.specs.declared.levels.Levels.TheVariants.{Prove, State as Stated}
use Rattle.proof_state.specs.declared.subgoal.Subgoal.{Subgoal}
use Rattle.proof_state.specs.declared.subgoal.Subgoal.TheVariants.{AssumeShow}
use Rattle.report_markup.specs.declared.kind.ReportKind.TheVariants as kind
use Rattle.isar_rules.specs.declared.state.State.{State}
use Rattle.isar_rules.specs.Reports.{name_is, theory_is}
use Rattle.isar_rules.specs.Steps.{step}
use Rattle.isar_rules.specs.Small.{said, says_word, errors, reports, behind, prop, in_theory, with_facts, in_block, proving}

-- `~P`
abbrev pub not_p : Formula
not_p = Not (prop (codes "P"))

-- the lemma: `~P --> ~P`
abbrev pub itself : Formula
itself = Implies not_p not_p

-- a block of the goal, with what is pending and its facts
abbrev pub block : List Subgoal → List LocalFact → Block
block pending facts = record { goal = itself; pending = pending; variables = []; facts = facts }

-- `~P` is assumed under the name `h`
abbrev pub h : LocalFact
h = record { origin = Assumed; name = Some (codes "h"); formula = not_p }

-- the subgoal that `proof` makes of it
abbrev pub subgoal : Subgoal
subgoal = AssumeShow not_p not_p

-- the state behind the lemma
abbrev pub stated : State
stated = proving itself (Prove itself [])

-- behind `proof`
abbrev pub opened : State
opened = proving itself (Stated (block (subgoal ∷ []) []) [])

-- behind `assume`
abbrev pub assumed : State
assumed = proving itself (Stated (block (subgoal ∷ []) (h ∷ [])) [])

-- behind `show`
abbrev pub shown : State
shown = proving itself (Prove not_p
    (record { block = block (subgoal ∷ []) (h ∷ []); purpose = purpose.Show 0 } ∷ []))

-- behind the `by` of what is shown
abbrev pub achieved : State
achieved = proving itself (Stated (block [] (h ∷ [])) [])

-- the theory has the lemma
abbrev pub with_lemma : State
with_lemma = with_facts ((record { name = codes "l"; theory = codes "A" }, itself) ∷ [])

-- each command leads to the next state
pub record AProof : Type 0 where
  pub lemma_state : behind (codes "lemma l: \"~ P --> ~ P\"") in_theory ≡ stated.place
  pub proof_state : behind (codes "proof") stated ≡ opened.place
  pub assume_state : behind (codes "assume h: \"~P\"") opened ≡ assumed.place
  pub show_state : behind (codes "show \"~P\"") assumed ≡ shown.place
  pub by_state : behind (codes "by h") shown ≡ achieved.place
  pub qed_state : behind (codes "qed") achieved ≡ with_lemma.place

-- their reports
pub record ProofReports : Type 0 where
  pub lemma_reports : reports (codes "lemma l: \"~ P --> ~ P\"") in_theory
      ≡ says_word 5 (codes "lemma")
      ∷ said kind.Def 6 7 (theory_is (codes "A") ∷ name_is (codes "l") ∷ []) []
      ∷ said kind.Formula 9 22 [] (codes "~P --> ~P") ∷ []
  pub proof_reports : reports (codes "proof") stated ≡ says_word 5 (codes "proof") ∷ []
  pub assume_reports : reports (codes "assume h: \"~P\"") opened
      ≡ says_word 6 (codes "assume") ∷ said kind.Def 7 8 (name_is (codes "h") ∷ []) []
      ∷ said kind.Formula 10 14 [] (codes "~P") ∷ []
  pub show_reports : reports (codes "show \"~P\"") assumed
      ≡ says_word 4 (codes "show") ∷ said kind.Formula 5 9 [] (codes "~P") ∷ []
  pub by_reports : reports (codes "by h") shown ≡ says_word 2 (codes "by") ∷ []
  pub by_forks : (step (codes "by h") None shown).forks ≡ true
  pub qed_reports : reports (codes "qed") achieved ≡ says_word 3 (codes "qed") ∷ []

-- a block in which `x` is fixed
abbrev pub fixed : State
fixed = proving (prop (codes "P")) (Stated
    (record { goal = prop (codes "P"); pending = []; variables = codes "x" ∷ []; facts = [] }) [])

-- errors of proof commands
pub record ProofErrors : Type 0 where
  pub formula_first : errors (codes "show \"Q &\"") (in_block []) ≡ codes "bad formula at 3" ∷ []
  pub pending : errors (codes "qed") opened ≡ codes "subgoals remain" ∷ []
  pub pending_kept : behind (codes "qed") opened ≡ opened.place
  pub symbol : errors (codes "assume \"P $\"") (in_block []) ≡ codes "bad formula at 2" ∷ []
  pub not_fresh : errors (codes "fix x") fixed ≡ codes "variable x is not fresh" ∷ []
  pub refused_forks : (step (codes "by h") None opened).forks ≡ false
