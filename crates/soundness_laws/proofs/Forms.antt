-- What each rule comes to, for a term and a goal of its form.
use Rattle.std.proofs.Common.{◌≡◌, ℕ, cond, ◌&&◌, IsTrue, List, Ok, ◌∙◌, ap}
use Rattle.nj_formula.specs.declared.argument.Argument.{Argument}
use Rattle.nj_formula.specs.declared.argument.Argument.TheVariants.{Free}
use Rattle.nj_formula.specs.declared.formula.Formula.{Formula}
use Rattle.nj_formula.specs.declared.formula.Formula.TheVariants as F
use Rattle.nj_formula.specs.Closed.{is_closed}
use Rattle.nj_formula.specs.FormulaInstance.{formula_instance}
use Rattle.nj_formula.specs.Meaning.{meaning}
use Rattle.nj_kernel.specs.declared.rule.Rule.TheVariants as R
use Rattle.proof_terms.specs.declared.term.Term.{Term, out-Term}
use Rattle.proof_terms.specs.declared.term.Term.TheOpen.{Term-F}
use Rattle.proof_terms.specs.declared.term.Term.TheVariants as T
use Rattle.proof_terms.proofs.KnownLayers.{out-ConjI, out-ConjE1, out-ConjE2, out-DisjI1}
use Rattle.proof_terms.proofs.KnownLayers.{out-DisjI2, out-DisjE, out-ImpI, out-ImpE, out-NotI}
use Rattle.proof_terms.proofs.KnownLayers.{out-NotE, out-FalseE}
use Rattle.proof_checks.specs.declared.step.Step.TheVariants.{One, Two, Three}
use Rattle.proof_checks.specs.declared.step.Unary.TheVariants as U
use Rattle.proof_checks.specs.declared.step.Binary.TheVariants as B
use Rattle.proof_checks.specs.Parts.{part, under}
use Rattle.proof_checks.specs.Rows.{Planned, misfit, step_of, conj_i, disj_i1, disj_i2, imp_i}
use Rattle.proof_checks.specs.Rows.{not_i, not_e, all_i, ex_i, all_e, ex_e}
use Rattle.proof_checks.specs.Statements.{is_same}
use Rattle.proof_checks.proofs.KnownStatements.{so_same}
use Rattle.nj_formula.proofs.KnownFormulas.{out-Implies}
use Rattle.soundness_laws.proofs.Layers.{out-False, out-Not, out-And, out-Or, out-All, out-Exists}
use Rattle.soundness_laws.proofs.Layers.{out-AllI, out-AllE, out-ExI, out-ExE}

-- what a term of a form comes to, by its layer
layer : (t : Term) (l : Term-F Term) (goal : Formula) → out-Term t ≡ l
    → step_of (out-Term t) goal ≡ step_of l goal
layer t l goal is = ap (λ k. step_of k goal) is

pub conj_i_row : (t u : Term) (a b : Formula)
    → step_of (out-Term (T.ConjI t u)) (F.And a b) ≡ Ok (Two B.ConjI (part t a) (part u b))
unfolding step_of
conj_i_row t u a b = layer (T.ConjI t u) (Term-F.ConjI t u) (F.And a b) (out-ConjI t u)
    ∙ ap (conj_i t u) (out-And a b)

pub conj_e1_row : (b : Formula) (t : Term) (goal : Formula)
    → step_of (out-Term (T.ConjE1 b t)) goal ≡ Ok (One U.ConjE1 (part t (F.And goal b)))
unfolding step_of
conj_e1_row b t goal = layer (T.ConjE1 b t) (Term-F.ConjE1 b t) goal (out-ConjE1 b t)

pub conj_e2_row : (a : Formula) (t : Term) (goal : Formula)
    → step_of (out-Term (T.ConjE2 a t)) goal ≡ Ok (One U.ConjE2 (part t (F.And a goal)))
unfolding step_of
conj_e2_row a t goal = layer (T.ConjE2 a t) (Term-F.ConjE2 a t) goal (out-ConjE2 a t)

pub disj_i1_row : (t : Term) (a b : Formula)
    → step_of (out-Term (T.DisjI1 t)) (F.Or a b) ≡ Ok (One (U.DisjI1 b) (part t a))
unfolding step_of
disj_i1_row t a b = layer (T.DisjI1 t) (Term-F.DisjI1 t) (F.Or a b) (out-DisjI1 t)
    ∙ ap (disj_i1 t) (out-Or a b)

pub disj_i2_row : (t : Term) (a b : Formula)
    → step_of (out-Term (T.DisjI2 t)) (F.Or a b) ≡ Ok (One (U.DisjI2 a) (part t b))
unfolding step_of
disj_i2_row t a b = layer (T.DisjI2 t) (Term-F.DisjI2 t) (F.Or a b) (out-DisjI2 t)
    ∙ ap (disj_i2 t) (out-Or a b)

pub disj_e_row : (a b : Formula) (t : Term) (x : List ℕ) (u : Term) (y : List ℕ) (v : Term)
    (goal : Formula)
    → step_of (out-Term (T.DisjE a b t x u y v)) goal
    ≡ Ok (Three (part t (F.Or a b)) (under x a u goal) (under y b v goal))
unfolding step_of
disj_e_row a b t x u y v goal = layer (T.DisjE a b t x u y v) (Term-F.DisjE a b t x u y v) goal
    (out-DisjE a b t x u y v)

pub imp_i_row : (x : List ℕ) (t : Term) (a b : Formula)
    → step_of (out-Term (T.ImpI x t)) (F.Implies a b) ≡ Ok (One (U.ImpI a) (under x a t b))
unfolding step_of
imp_i_row x t a b = layer (T.ImpI x t) (Term-F.ImpI x t) (F.Implies a b) (out-ImpI x t)
    ∙ ap (imp_i x t) (out-Implies a b)

pub imp_e_row : (a : Formula) (t u : Term) (goal : Formula)
    → step_of (out-Term (T.ImpE a t u)) goal
    ≡ Ok (Two B.ImpE (part t (F.Implies a goal)) (part u a))
unfolding step_of
imp_e_row a t u goal = layer (T.ImpE a t u) (Term-F.ImpE a t u) goal (out-ImpE a t u)

pub not_i_row : (x : List ℕ) (t : Term) (a : Formula)
    → step_of (out-Term (T.NotI x t)) (F.Not a) ≡ Ok (One (U.NotI a) (under x a t F.False))
unfolding step_of
not_i_row x t a = layer (T.NotI x t) (Term-F.NotI x t) (F.Not a) (out-NotI x t)
    ∙ ap (not_i x t) (out-Not a)

pub not_e_row : (a : Formula) (t u : Term)
    → step_of (out-Term (T.NotE a t u)) F.False ≡ Ok (Two B.NotE (part t (F.Not a)) (part u a))
unfolding step_of
not_e_row a t u = layer (T.NotE a t u) (Term-F.NotE a t u) F.False (out-NotE a t u)
    ∙ ap (not_e a t u) out-False

pub false_e_row : (t : Term) (goal : Formula)
    → step_of (out-Term (T.FalseE t)) goal ≡ Ok (One U.FalseE (part t F.False))
unfolding step_of
false_e_row t goal = layer (T.FalseE t) (Term-F.FalseE t) goal (out-FalseE t)

pub all_i_row : (x : List ℕ) (t : Term) (y : List ℕ) (p : Formula)
    → step_of (out-Term (T.AllI x t)) (F.All y p)
    ≡ Ok (One (U.AllI x) (part t (formula_instance (Free x) p)))
unfolding step_of
all_i_row x t y p = layer (T.AllI x t) (Term-F.AllI x t) (F.All y p) (out-AllI x t)
    ∙ ap (all_i x t) (out-All y p)

pub all_e_row : (y : List ℕ) (p : Formula) (s : Argument) (t : Term) (goal : Formula)
    → IsTrue (is_closed s) → meaning goal ≡ meaning (formula_instance s p)
    → step_of (out-Term (T.AllE (F.All y p) s t)) goal ≡ Ok (One (U.AllE s) (part t (F.All y p)))
unfolding step_of
all_e_row y p s t goal closed is =
    let q = F.All y p in
    let step : Planned = Ok (One (U.AllE s) (part t q)) in
    layer (T.AllE q s t) (Term-F.AllE q s t) goal (out-AllE q s t)
    ∙ (ap (all_e q s t goal) (out-All y p)
    ∙ (ap (λ c. cond (c && is_same (meaning goal) (meaning (formula_instance s p))) step
    (misfit R.AllE)) closed
    ∙ ap (λ c. cond c step (misfit R.AllE))
    (so_same (meaning goal) (meaning (formula_instance s p)) is)))

pub ex_i_row : (s : Argument) (t : Term) (y : List ℕ) (p : Formula) → IsTrue (is_closed s)
    → step_of (out-Term (T.ExI s t)) (F.Exists y p)
    ≡ Ok (One (U.ExI s) (part t (formula_instance s p)))
unfolding step_of
ex_i_row s t y p closed =
    layer (T.ExI s t) (Term-F.ExI s t) (F.Exists y p) (out-ExI s t)
    ∙ (ap (ex_i s t) (out-Exists y p)
    ∙ ap (λ c. cond c (Ok (One (U.ExI s) (part t (formula_instance s p)))) (misfit R.ExI)) closed)

pub ex_e_row : (y : List ℕ) (p : Formula) (x h : List ℕ) (t u : Term) (goal : Formula)
    → step_of (out-Term (T.ExE (F.Exists y p) x h t u)) goal
    ≡ Ok (Two (B.ExE x) (part t (F.Exists y p)) (under h (formula_instance (Free x) p) u goal))
unfolding step_of
ex_e_row y p x h t u goal =
    let q = F.Exists y p in
    layer (T.ExE q x h t u) (Term-F.ExE q x h t u) goal (out-ExE q x h t u)
    ∙ ap (ex_e q x h t u goal) (out-Exists y p)
