-- Each rule that is found is one of the rules.
use Rattle.std.proofs.Common.{◌≡◌, ℕ, suc, List, Result, Ok, sym, ◌∙◌, subst}
use Rattle.nj_formula.specs.declared.formula.Formula.{Formula, roll-Formula}
use Rattle.nj_formula.specs.declared.formula.Formula.TheOpen.{Formula-F}
use Rattle.nj_formula.specs.declared.formula.Formula.TheVariants as F
use Rattle.nj_formula.specs.Statement.{Statement}
use Rattle.theory_ctx.specs.Locals.{Scoped}
use Rattle.proof_terms.specs.declared.fault.TermFault.{TermFault}
use Rattle.proof_terms.specs.declared.term.Term.{Term}
use Rattle.proof_terms.specs.declared.term.Term.TheVariants as T
use Rattle.proof_checks.specs.declared.step.Unary.TheVariants as U
use Rattle.proof_checks.specs.declared.step.Binary.TheVariants as B
use Rattle.proof_checks.specs.Checks.{and_then, by_one, by_two, of_step, checked_within}
use Rattle.proof_checks.specs.Parts.{part, under}
use Rattle.proof_checks.specs.Rows as Rows
use Rattle.soundness_laws.specs.Proofs.{TermProves, assuming, conj_i, conj_e1, conj_e2, disj_i1}
use Rattle.soundness_laws.specs.Proofs.{disj_i2, disj_e, imp_i, imp_e, not_i, not_e, false_e}
use Rattle.proof_checks.proofs.KnownFound.{same_found}
use Rattle.soundness_laws.proofs.Steps.{one_back, two_back, three_back}

-- what is found in a term with at most so many nested rules is a proof
abbrev pub Sound : ℕ → Type 0
Sound n = (t : Term) (goal : Formula) (scope : Scoped) (s : List Statement)
    → checked_within n t goal scope ≡ Ok s → TermProves n scope t goal s

module _ (n : ℕ) (scope : Scoped) (sound : Sound n) where
  abbrev pub after : Formula → Rows.Planned → Result (List Statement) TermFault
  after goal planned = and_then planned (of_step (checked_within n) scope goal)

  -- the goal and what is assumed under other names
  pub so : {t : Term} {a goal : Formula} {s r : List Statement} → goal ≡ a → s ≡ r
      → TermProves (suc n) scope t a s → TermProves (suc n) scope t goal r
  so {t} {a} {goal} {s} {r} is same d = subst (λ k. TermProves (suc n) scope t goal k) same
      (subst (λ g. TermProves (suc n) scope t g s) (sym is) d)

  pub conj_i_sound : (t u : Term) (goal : Formula) (g : Formula-F Formula) (s : List Statement)
      → goal ≡ roll-Formula g
      → after goal (Rows.conj_i t u g) ≡ Ok s → TermProves (suc n) scope (T.ConjI t u) goal s
  unfolding by_two
  conj_i_sound t u goal (Formula-F.And a b) s is e =
      let w = two_back (checked_within n) scope goal B.ConjI (part t a) (part u b) s e in
      so (is ∙ F.rolls-And a b) (same_found w.4)
      (conj_i (sound t a scope w.0 w.2) (sound u b scope w.1 w.3))
  conj_i_sound t u goal _ s is e = cc

  pub disj_i1_sound : (t : Term) (goal : Formula) (g : Formula-F Formula) (s : List Statement)
      → goal ≡ roll-Formula g
      → after goal (Rows.disj_i1 t g) ≡ Ok s → TermProves (suc n) scope (T.DisjI1 t) goal s
  unfolding by_one
  disj_i1_sound t goal (Formula-F.Or a b) s is e =
      let w = one_back (checked_within n) scope goal (U.DisjI1 b) (part t a) s e in
      so (is ∙ F.rolls-Or a b) (same_found w.2) (disj_i1 b (sound t a scope w.0 w.1))
  disj_i1_sound t goal _ s is e = cc

  pub disj_i2_sound : (t : Term) (goal : Formula) (g : Formula-F Formula) (s : List Statement)
      → goal ≡ roll-Formula g
      → after goal (Rows.disj_i2 t g) ≡ Ok s → TermProves (suc n) scope (T.DisjI2 t) goal s
  unfolding by_one
  disj_i2_sound t goal (Formula-F.Or a b) s is e =
      let w = one_back (checked_within n) scope goal (U.DisjI2 a) (part t b) s e in
      so (is ∙ F.rolls-Or a b) (same_found w.2) (disj_i2 a (sound t b scope w.0 w.1))
  disj_i2_sound t goal _ s is e = cc

  pub imp_i_sound : (x : List ℕ) (t : Term) (goal : Formula) (g : Formula-F Formula)
      (s : List Statement) → goal ≡ roll-Formula g
      → after goal (Rows.imp_i x t g) ≡ Ok s → TermProves (suc n) scope (T.ImpI x t) goal s
  unfolding by_one
  imp_i_sound x t goal (Formula-F.Implies a b) s is e =
      let w = one_back (checked_within n) scope goal (U.ImpI a) (under x a t b) s e in
      so (is ∙ F.rolls-Implies a b) (same_found w.2)
      (imp_i x a (sound t b (assuming x a scope) w.0 w.1))
  imp_i_sound x t goal _ s is e = cc

  pub not_i_sound : (x : List ℕ) (t : Term) (goal : Formula) (g : Formula-F Formula)
      (s : List Statement) → goal ≡ roll-Formula g
      → after goal (Rows.not_i x t g) ≡ Ok s → TermProves (suc n) scope (T.NotI x t) goal s
  unfolding by_one
  not_i_sound x t goal (Formula-F.Not a) s is e =
      let w = one_back (checked_within n) scope goal (U.NotI a) (under x a t F.False) s e in
      so (is ∙ F.rolls-Not a) (same_found w.2)
      (not_i x a (sound t F.False (assuming x a scope) w.0 w.1))
  not_i_sound x t goal _ s is e = cc

  pub conj_e1_sound : (b : Formula) (t : Term) (goal : Formula) (s : List Statement)
      → after goal (Ok (Rows.conj_e1 b t goal)) ≡ Ok s
      → TermProves (suc n) scope (T.ConjE1 b t) goal s
  unfolding by_one
  conj_e1_sound b t goal s e =
      let w = one_back (checked_within n) scope goal U.ConjE1 (part t (F.And goal b)) s e in
      subst (λ k. TermProves (suc n) scope (T.ConjE1 b t) goal k) (same_found w.2)
      (conj_e1 b (sound t (F.And goal b) scope w.0 w.1))

  pub conj_e2_sound : (a : Formula) (t : Term) (goal : Formula) (s : List Statement)
      → after goal (Ok (Rows.conj_e2 a t goal)) ≡ Ok s
      → TermProves (suc n) scope (T.ConjE2 a t) goal s
  unfolding by_one
  conj_e2_sound a t goal s e =
      let w = one_back (checked_within n) scope goal U.ConjE2 (part t (F.And a goal)) s e in
      subst (λ k. TermProves (suc n) scope (T.ConjE2 a t) goal k) (same_found w.2)
      (conj_e2 a (sound t (F.And a goal) scope w.0 w.1))

  pub disj_e_sound : (a b : Formula) (t : Term) (x : List ℕ) (u : Term) (y : List ℕ) (v : Term)
      (goal : Formula) (s : List Statement)
      → after goal (Ok (Rows.disj_e a b t x u y v goal)) ≡ Ok s
      → TermProves (suc n) scope (T.DisjE a b t x u y v) goal s
  disj_e_sound a b t x u y v goal s e =
      let w = three_back (checked_within n) scope goal (part t (F.Or a b)) (under x a u goal)
      (under y b v goal) s e in
      subst (λ k. TermProves (suc n) scope (T.DisjE a b t x u y v) goal k) w.6
      (disj_e a b x y (sound t (F.Or a b) scope w.0 w.3)
      (sound u goal (assuming x a scope) w.1 w.4) (sound v goal (assuming y b scope) w.2 w.5))

  pub imp_e_sound : (a : Formula) (t u : Term) (goal : Formula) (s : List Statement)
      → after goal (Ok (Rows.imp_e a t u goal)) ≡ Ok s
      → TermProves (suc n) scope (T.ImpE a t u) goal s
  unfolding by_two
  imp_e_sound a t u goal s e =
      let w = two_back (checked_within n) scope goal B.ImpE (part t (F.Implies a goal))
      (part u a) s e in
      subst (λ k. TermProves (suc n) scope (T.ImpE a t u) goal k) (same_found w.4)
      (imp_e (sound t (F.Implies a goal) scope w.0 w.2) (sound u a scope w.1 w.3))

  pub not_e_sound : (a : Formula) (t u : Term) (goal : Formula) (g : Formula-F Formula)
      (s : List Statement) → goal ≡ roll-Formula g
      → after goal (Rows.not_e a t u g) ≡ Ok s → TermProves (suc n) scope (T.NotE a t u) goal s
  unfolding by_two
  not_e_sound a t u goal Formula-F.False s is e =
      let w = two_back (checked_within n) scope goal B.NotE (part t (F.Not a)) (part u a) s e in
      so (is ∙ F.rolls-False) (same_found w.4)
      (not_e (sound t (F.Not a) scope w.0 w.2) (sound u a scope w.1 w.3))
  not_e_sound a t u goal _ s is e = cc

  pub false_e_sound : (t : Term) (goal : Formula) (s : List Statement)
      → after goal (Ok (Rows.false_e t)) ≡ Ok s
      → TermProves (suc n) scope (T.FalseE t) goal s
  unfolding by_one
  false_e_sound t goal s e =
      let w = one_back (checked_within n) scope goal U.FalseE (part t F.False) s e in
      subst (λ k. TermProves (suc n) scope (T.FalseE t) goal k) (same_found w.2)
      (false_e (sound t F.False scope w.0 w.1))
