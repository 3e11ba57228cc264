-- Which term proves which formula, and from what: natural deduction with a constructor for each
-- rule (Gentzen 1935), in which an assumption has a name and a term cites it by that name (this
-- project's own). Nothing is looked for or refused here.
use Rattle.std.specs.Prelude.{◌≡◌, ℕ, suc, IsTrue, List, [], ◌∷◌, ◌++◌, Option}
use Rattle.nj_formula.specs.declared.argument.Argument.{Argument}
use Rattle.nj_formula.specs.declared.argument.Argument.TheVariants.{Free}
use Rattle.nj_formula.specs.declared.formula.Formula.{Formula}
use Rattle.nj_formula.specs.declared.formula.Formula.TheVariants.{False, Not, And, Or, Implies}
use Rattle.nj_formula.specs.declared.formula.Formula.TheVariants.{All, Exists}
use Rattle.nj_formula.specs.Closed.{is_closed}
use Rattle.nj_formula.specs.FormulaInstance.{formula_instance}
use Rattle.nj_formula.specs.Meaning.{meaning}
use Rattle.nj_formula.specs.Statement.{Statement}
use Rattle.nj_kernel.specs.Sets.{members, IsFreshIn}
use Rattle.theory_ctx.specs.Answers.{found}
use Rattle.theory_ctx.specs.Locals.{Scoped, looked_in}
use Rattle.proof_terms.specs.declared.term.Cite.{Cite}
use Rattle.proof_terms.specs.declared.term.Term.{Term}
use Rattle.proof_terms.specs.declared.term.Term.TheVariants as T
use Rattle.proof_checks.specs.Statements.{without}

-- the scope in which A is assumed under this name
abbrev pub assuming : List ℕ → Formula → Scoped → Scoped
assuming x a scope =
    record scope { locals = record { name = x; formula = a } ∷ scope.locals }

-- a term of at most so many nested rules proves the formula in the scope, from these statements
pub data TermProves : ℕ → Scoped → Term → Formula → List Statement → Type 0 where
  -- a fact proves what it says, whatever names are beside quantifiers
  cites : {n : ℕ} {scope : Scoped} {goal : Formula} {theory : Option (List ℕ)} {name : List ℕ}
      (c : Cite) (fact : Formula) → looked_in scope c.name ≡ found theory name fact
      → meaning fact ≡ meaning goal → TermProves n scope (T.Fact c) goal (meaning fact ∷ [])
  conj_i : {n : ℕ} {scope : Scoped} {t u : Term} {a b : Formula} {s r : List Statement}
      → TermProves n scope t a s → TermProves n scope u b r
      → TermProves (suc n) scope (T.ConjI t u) (And a b) (s ++ r)
  conj_e1 : {n : ℕ} {scope : Scoped} {t : Term} {a : Formula} {s : List Statement} (b : Formula)
      → TermProves n scope t (And a b) s → TermProves (suc n) scope (T.ConjE1 b t) a s
  conj_e2 : {n : ℕ} {scope : Scoped} {t : Term} {b : Formula} {s : List Statement} (a : Formula)
      → TermProves n scope t (And a b) s → TermProves (suc n) scope (T.ConjE2 a t) b s
  disj_i1 : {n : ℕ} {scope : Scoped} {t : Term} {a : Formula} {s : List Statement} (b : Formula)
      → TermProves n scope t a s → TermProves (suc n) scope (T.DisjI1 t) (Or a b) s
  disj_i2 : {n : ℕ} {scope : Scoped} {t : Term} {b : Formula} {s : List Statement} (a : Formula)
      → TermProves n scope t b s → TermProves (suc n) scope (T.DisjI2 t) (Or a b) s
  disj_e : {n : ℕ} {scope : Scoped} {t u v : Term} {c : Formula} {s r q : List Statement}
      (a b : Formula) (x y : List ℕ) → TermProves n scope t (Or a b) s
      → TermProves n (assuming x a scope) u c r → TermProves n (assuming y b scope) v c q
      → TermProves (suc n) scope (T.DisjE a b t x u y v) c
      (s ++ without (meaning a) r ++ without (meaning b) q)
  imp_i : {n : ℕ} {scope : Scoped} {t : Term} {b : Formula} {s : List Statement}
      (x : List ℕ) (a : Formula) → TermProves n (assuming x a scope) t b s
      → TermProves (suc n) scope (T.ImpI x t) (Implies a b) (without (meaning a) s)
  imp_e : {n : ℕ} {scope : Scoped} {t u : Term} {a b : Formula} {s r : List Statement}
      → TermProves n scope t (Implies a b) s → TermProves n scope u a r
      → TermProves (suc n) scope (T.ImpE a t u) b (s ++ r)
  not_i : {n : ℕ} {scope : Scoped} {t : Term} {s : List Statement}
      (x : List ℕ) (a : Formula) → TermProves n (assuming x a scope) t False s
      → TermProves (suc n) scope (T.NotI x t) (Not a) (without (meaning a) s)
  not_e : {n : ℕ} {scope : Scoped} {t u : Term} {a : Formula} {s r : List Statement}
      → TermProves n scope t (Not a) s → TermProves n scope u a r
      → TermProves (suc n) scope (T.NotE a t u) False (s ++ r)
  false_e : {n : ℕ} {scope : Scoped} {t : Term} {c : Formula} {s : List Statement}
      → TermProves n scope t False s → TermProves (suc n) scope (T.FalseE t) c s
  -- from P[x] to ALL y. P, where x is free neither in that nor in what is assumed
  all_i : {n : ℕ} {scope : Scoped} {t : Term} {s : List Statement}
      (x y : List ℕ) (p : Formula) → TermProves n scope t (formula_instance (Free x) p) s
      → IsFreshIn x (members (meaning (All y p) ∷ s))
      → TermProves (suc n) scope (T.AllI x t) (All y p) s
  all_e : {n : ℕ} {scope : Scoped} {t : Term} {goal : Formula} {s : List Statement}
      (y : List ℕ) (p : Formula) (term : Argument) → IsTrue (is_closed term)
      → meaning goal ≡ meaning (formula_instance term p) → TermProves n scope t (All y p) s
      → TermProves (suc n) scope (T.AllE (All y p) term t) goal s
  ex_i : {n : ℕ} {scope : Scoped} {t : Term} {s : List Statement}
      (y : List ℕ) (p : Formula) (term : Argument) → IsTrue (is_closed term)
      → TermProves n scope t (formula_instance term p) s
      → TermProves (suc n) scope (T.ExI term t) (Exists y p) s
  -- P[x] is discharged; x is free neither in EX y. P, nor in C, nor in what is left of what is
  -- assumed for C
  ex_e : {n : ℕ} {scope : Scoped} {t u : Term} {c : Formula} {s r : List Statement}
      (x h y : List ℕ) (p : Formula) → TermProves n scope t (Exists y p) s
      → TermProves n (assuming h (formula_instance (Free x) p) scope) u c r
      → IsFreshIn x (members (meaning (Exists y p) ∷ meaning c
      ∷ without (meaning (formula_instance (Free x) p)) r))
      → TermProves (suc n) scope (T.ExE (Exists y p) x h t u) c
      (s ++ without (meaning (formula_instance (Free x) p)) r)
