-- The parts of a rule have plain names where its term has, or its fault has a plain text.
use Rattle.std.proofs.Common.{ℕ, ◌&&◌, Bool, true, false, cond, List, codes, Result, Ok, Err, refl}
use Rattle.std.specs.Prelude.{⊤}
use Rattle.nj_formula.specs.declared.argument.Argument.{Argument}
use Rattle.nj_formula.specs.declared.formula.Formula.{Formula}
use Rattle.nj_formula.specs.declared.formula.Formula.TheOpen.{Formula-F}
use Rattle.nj_formula.specs.Closed.{is_closed}
use Rattle.nj_formula.specs.FormulaInstance.{formula_instance}
use Rattle.nj_formula.specs.Meaning.{meaning}
use Rattle.nj_kernel.specs.declared.rule.Rule.{Rule}
use Rattle.nj_kernel.specs.declared.rule.Rule.TheVariants as R
use Rattle.proof_terms.specs.declared.fault.TermFault.{TermFault}
use Rattle.proof_terms.specs.declared.term.Term.{Term}
use Rattle.proof_checks.specs.declared.step.Part.{Part}
use Rattle.proof_checks.specs.declared.step.Step.{Step}
use Rattle.proof_checks.specs.declared.step.Step.TheVariants.{Cited, One, Two, Three}
use Rattle.proof_checks.specs.declared.step.Unary.{Unary}
use Rattle.proof_checks.specs.declared.step.Unary.TheVariants as U
use Rattle.proof_checks.specs.declared.step.Binary.{Binary}
use Rattle.proof_checks.specs.declared.step.Binary.TheVariants as B
use Rattle.proof_checks.specs.Parts.{part}
use Rattle.proof_checks.specs.Rows.{conj_i, disj_i1, disj_i2, imp_i, not_i, all_i, ex_i, not_e}
use Rattle.proof_checks.specs.Rows.{all_e, ex_e, misfit}
use Rattle.proof_checks.specs.Statements.{is_same}
use Rattle.editor_laws.proofs.PlainTexts.{Plain, spelled, joined, after}
use Rattle.editor_laws.proofs.JudgedMarks.{FaultPlain}
use Rattle.editor_laws.proofs.TermNames.{TermPlain, rule_plain}

abbrev pub PartPlain : Part → Type 0
PartPlain p = TermPlain p.term

abbrev pub UnaryPlain : Unary → Type 0
UnaryPlain (U.AllI x) = Plain x
UnaryPlain _ = ⊤

abbrev pub BinaryPlain : Binary → Type 0
BinaryPlain (B.ExE x) = Plain x
BinaryPlain _ = ⊤

abbrev pub StepPlain : Step → Type 0
StepPlain (Cited c) = Plain c.name
StepPlain (One rule p) = UnaryPlain rule × PartPlain p
StepPlain (Two rule p q) = BinaryPlain rule × PartPlain p × PartPlain q
StepPlain (Three p q r) = PartPlain p × PartPlain q × PartPlain r

-- what comes of it has this, or else the fault's text is plain
abbrev pub IfFound : {A : Type 0} → (A → Type 0) → Result A TermFault → Type 0
IfFound P (Ok a) = P a
IfFound P (Err fault) = FaultPlain fault

pub misfit_plain : (r : Rule) → IfFound StepPlain (misfit r)
misfit_plain r = after (codes "rule ") refl (joined (rule_plain r) (spelled refl))

pub conj_plain : (t u : Term) (goal : Formula-F Formula) → TermPlain t → TermPlain u
    → IfFound StepPlain (conj_i t u goal)
conj_plain t u (Formula-F.And a b) p q = (tt, p, q)
conj_plain t u _ p q = misfit_plain R.ConjI

pub left_plain : (t : Term) (goal : Formula-F Formula) → TermPlain t
    → IfFound StepPlain (disj_i1 t goal)
left_plain t (Formula-F.Or a b) p = (tt, p)
left_plain t _ p = misfit_plain R.DisjI1

pub right_plain : (t : Term) (goal : Formula-F Formula) → TermPlain t
    → IfFound StepPlain (disj_i2 t goal)
right_plain t (Formula-F.Or a b) p = (tt, p)
right_plain t _ p = misfit_plain R.DisjI2

pub imp_plain : (x : List ℕ) (t : Term) (goal : Formula-F Formula) → TermPlain t
    → IfFound StepPlain (imp_i x t goal)
imp_plain x t (Formula-F.Implies a b) p = (tt, p)
imp_plain x t _ p = misfit_plain R.ImpI

pub not_plain : (x : List ℕ) (t : Term) (goal : Formula-F Formula) → TermPlain t
    → IfFound StepPlain (not_i x t goal)
not_plain x t (Formula-F.Not a) p = (tt, p)
not_plain x t _ p = misfit_plain R.NotI

pub all_plain : (x : List ℕ) (t : Term) (goal : Formula-F Formula) → Plain x → TermPlain t
    → IfFound StepPlain (all_i x t goal)
all_plain x t (Formula-F.All y a) q p = (q, p)
all_plain x t _ q p = misfit_plain R.AllI

pub some_plain : (s : Argument) (t : Term) (goal : Formula-F Formula) → TermPlain t
    → IfFound StepPlain (ex_i s t goal)
some_plain s t (Formula-F.Exists y a) p = go (is_closed s)
  where
    go : (b : Bool)
        → IfFound StepPlain
        (cond b (Ok (One (U.ExI s) (part t (formula_instance s a)))) (misfit R.ExI))
    go true = (tt, p)
    go false = misfit_plain R.ExI
some_plain s t _ p = misfit_plain R.ExI

pub denied_plain : (a : Formula) (t u : Term) (goal : Formula-F Formula) → TermPlain t → TermPlain u
    → IfFound StepPlain (not_e a t u goal)
denied_plain a t u Formula-F.False p q = (tt, p, q)
denied_plain a t u _ p q = misfit_plain R.NotE

pub each_plain : (quoted : Formula) (s : Argument) (t : Term) (goal : Formula)
    (layer : Formula-F Formula) → TermPlain t → IfFound StepPlain (all_e quoted s t goal layer)
each_plain quoted s t goal (Formula-F.All y a) p =
    go (is_closed s && is_same (meaning goal) (meaning (formula_instance s a)))
  where
    go : (b : Bool)
        → IfFound StepPlain (cond b (Ok (One (U.AllE s) (part t quoted))) (misfit R.AllE))
    go true = (tt, p)
    go false = misfit_plain R.AllE
each_plain quoted s t goal _ p = misfit_plain R.AllE

pub of_some_plain : (quoted : Formula) (x h : List ℕ) (t u : Term) (goal : Formula)
    (layer : Formula-F Formula) → Plain x → TermPlain t → TermPlain u
    → IfFound StepPlain (ex_e quoted x h t u goal layer)
of_some_plain quoted x h t u goal (Formula-F.Exists y a) n p q = (n, p, q)
of_some_plain quoted x h t u goal _ n p q = misfit_plain R.ExE
