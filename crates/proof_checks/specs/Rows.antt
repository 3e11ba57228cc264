-- What each rule of a proof term asks for: a row a rule, with its parts by the shape of the goal or
-- of what it quotes, or else that it does not fit (the rules are Gentzen's, 1935; how a term has
-- them is this project's own). A quoted term has no bound place, so that condition fails of none
-- that is read.
use Rattle.std.specs.Prelude.{ℕ, ◌&&◌, List, Result, Ok, Err, if◌then◌else◌}
use Rattle.nj_formula.specs.declared.argument.Argument.{Argument}
use Rattle.nj_formula.specs.declared.argument.Argument.TheVariants.{Free}
use Rattle.nj_formula.specs.declared.formula.Formula.{Formula, out-Formula}
use Rattle.nj_formula.specs.declared.formula.Formula.TheOpen.{Formula-F}
use Rattle.nj_formula.specs.declared.formula.Formula.TheVariants.{False, Not, And, Or, Implies}
use Rattle.nj_formula.specs.Closed.{is_closed}
use Rattle.nj_formula.specs.FormulaInstance.{formula_instance}
use Rattle.nj_formula.specs.Meaning.{meaning}
use Rattle.nj_kernel.specs.declared.rule.Rule.{Rule}
use Rattle.nj_kernel.specs.declared.rule.Rule.TheVariants as R
use Rattle.proof_terms.specs.declared.fault.TermFault.{TermFault}
use Rattle.proof_terms.specs.declared.fault.TermFault.TheVariants.{RuleDoesNotFit}
use Rattle.proof_terms.specs.declared.term.Term.{Term}
use Rattle.proof_terms.specs.declared.term.Term.TheOpen.{Term-F}
use Rattle.proof_checks.specs.declared.step.Step.{Step}
use Rattle.proof_checks.specs.declared.step.Step.TheVariants.{Cited, One, Two, Three}
use Rattle.proof_checks.specs.declared.step.Unary.TheVariants as U
use Rattle.proof_checks.specs.declared.step.Binary.TheVariants as B
use Rattle.proof_checks.specs.Parts.{part, under}
use Rattle.proof_checks.specs.Statements.{is_same}

-- the parts, or the fault
abbrev pub Planned : Type 0
Planned = Result Step TermFault

-- the rule does not fit
abbrev pub misfit : Rule → Planned
misfit r = Err (RuleDoesNotFit r)

-- Rules that introduce; the last argument is the outermost layer of the goal.

-- from A and B to A & B
abbrev pub conj_i : Term → Term → Formula-F Formula → Planned
conj_i t u (Formula-F.And a b) = Ok (Two B.ConjI (part t a) (part u b))
conj_i t u _ = misfit R.ConjI

-- from A to A | B
abbrev pub disj_i1 : Term → Formula-F Formula → Planned
disj_i1 t (Formula-F.Or a b) = Ok (One (U.DisjI1 b) (part t a))
disj_i1 t _ = misfit R.DisjI1

-- from B to A | B
abbrev pub disj_i2 : Term → Formula-F Formula → Planned
disj_i2 t (Formula-F.Or a b) = Ok (One (U.DisjI2 a) (part t b))
disj_i2 t _ = misfit R.DisjI2

-- from B under A to A --> B
abbrev pub imp_i : List ℕ → Term → Formula-F Formula → Planned
imp_i x t (Formula-F.Implies a b) = Ok (One (U.ImpI a) (under x a t b))
imp_i x t _ = misfit R.ImpI

-- from False under A to ~A
abbrev pub not_i : List ℕ → Term → Formula-F Formula → Planned
not_i x t (Formula-F.Not a) = Ok (One (U.NotI a) (under x a t False))
not_i x t _ = misfit R.NotI

-- from the body at a name to all
abbrev pub all_i : List ℕ → Term → Formula-F Formula → Planned
all_i x t (Formula-F.All y p) = Ok (One (U.AllI x) (part t (formula_instance (Free x) p)))
all_i x t _ = misfit R.AllI

-- from the body at a term to some
abbrev pub ex_i : Argument → Term → Formula-F Formula → Planned
ex_i s t (Formula-F.Exists y p) =
    if is_closed s then Ok (One (U.ExI s) (part t (formula_instance s p))) else misfit R.ExI
ex_i s t _ = misfit R.ExI

-- Rules that eliminate; a last argument after the goal is the outermost layer of what is quoted.

-- from A & B to A, where B is quoted
abbrev pub conj_e1 : Formula → Term → Formula → Step
conj_e1 b t goal = One U.ConjE1 (part t (And goal b))

-- from A & B to B, where A is quoted
abbrev pub conj_e2 : Formula → Term → Formula → Step
conj_e2 a t goal = One U.ConjE2 (part t (And a goal))

-- from A | B and from the goal under either to the goal
abbrev pub disj_e : Formula → Formula → Term → List ℕ → Term → List ℕ → Term → Formula → Step
disj_e a b t x u y v goal = Three (part t (Or a b)) (under x a u goal) (under y b v goal)

-- from A --> B and A to B
abbrev pub imp_e : Formula → Term → Term → Formula → Step
imp_e a t u goal = Two B.ImpE (part t (Implies a goal)) (part u a)

-- from ~A and A to False
abbrev pub not_e : Formula → Term → Term → Formula-F Formula → Planned
not_e a t u Formula-F.False = Ok (Two B.NotE (part t (Not a)) (part u a))
not_e a t u _ = misfit R.NotE

-- from False to anything
abbrev pub false_e : Term → Step
false_e t = One U.FalseE (part t False)

-- from all to the body at a term
abbrev pub all_e : Formula → Argument → Term → Formula → Formula-F Formula → Planned
all_e quoted s t goal (Formula-F.All y p) =
    if is_closed s && is_same (meaning goal) (meaning (formula_instance s p))
    then Ok (One (U.AllE s) (part t quoted)) else misfit R.AllE
all_e quoted s t goal _ = misfit R.AllE

-- from some, and from the goal under the body at a name, to the goal
abbrev pub ex_e : Formula → List ℕ → List ℕ → Term → Term → Formula → Formula-F Formula → Planned
ex_e quoted x h t u goal (Formula-F.Exists y p) =
    Ok (Two (B.ExE x) (part t quoted) (under h (formula_instance (Free x) p) u goal))
ex_e quoted x h t u goal _ = misfit R.ExE

-- what a term of this outermost layer comes to, where it is to show the goal
unfoldable pub step_of : Term-F Term → Formula → Planned
step_of (Term-F.Fact c) goal = Ok (Cited c)
step_of (Term-F.ConjI t u) goal = conj_i t u (out-Formula goal)
step_of (Term-F.ConjE1 b t) goal = Ok (conj_e1 b t goal)
step_of (Term-F.ConjE2 a t) goal = Ok (conj_e2 a t goal)
step_of (Term-F.DisjI1 t) goal = disj_i1 t (out-Formula goal)
step_of (Term-F.DisjI2 t) goal = disj_i2 t (out-Formula goal)
step_of (Term-F.DisjE a b t x u y v) goal = Ok (disj_e a b t x u y v goal)
step_of (Term-F.ImpI x t) goal = imp_i x t (out-Formula goal)
step_of (Term-F.ImpE a t u) goal = Ok (imp_e a t u goal)
step_of (Term-F.NotI x t) goal = not_i x t (out-Formula goal)
step_of (Term-F.NotE a t u) goal = not_e a t u (out-Formula goal)
step_of (Term-F.FalseE t) goal = Ok (false_e t)
step_of (Term-F.AllI x t) goal = all_i x t (out-Formula goal)
step_of (Term-F.AllE quoted s t) goal = all_e quoted s t goal (out-Formula quoted)
step_of (Term-F.ExI s t) goal = ex_i s t (out-Formula goal)
step_of (Term-F.ExE quoted x h t u) goal = ex_e quoted x h t u goal (out-Formula quoted)
