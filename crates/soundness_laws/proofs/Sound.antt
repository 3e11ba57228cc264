-- All that is found is a proof by the rules.
use Rattle.std.proofs.Common.{◌≡◌, ℕ, zero, suc, Bool, true, false, cond, List, [], ◌∷◌, Ok, Err}
use Rattle.std.proofs.Common.{refl, sym, ◌∙◌, ap, subst}
use Rattle.nj_formula.specs.declared.formula.Formula.{Formula, out-Formula, roll-Formula}
use Rattle.nj_formula.specs.declared.formula.Formula.{roll-out-Formula}
use Rattle.nj_formula.specs.Meaning.{meaning}
use Rattle.nj_formula.specs.Statement.{Statement}
use Rattle.theory_ctx.specs.Answers.{Answer, found, unknown, ambiguous}
use Rattle.theory_ctx.specs.Locals.{Scoped, looked_in}
use Rattle.proof_terms.specs.declared.fault.TermFault.TheVariants.{ProofTooDeep, ProvesAnother}
use Rattle.proof_terms.specs.declared.term.Cite.{Cite}
use Rattle.proof_terms.specs.declared.term.Term.{Term, out-Term, roll-Term, roll-out-Term}
use Rattle.proof_terms.specs.declared.term.Term.TheOpen.{Term-F}
use Rattle.proof_terms.specs.declared.term.Term.TheVariants as T
use Rattle.proof_checks.specs.Checks.{Found, and_then, cited, of_step, step_within}
use Rattle.proof_checks.specs.Checks.{checked_within}
use Rattle.proof_checks.specs.Rows.{step_of}
use Rattle.proof_checks.specs.Statements.{is_same}
use Rattle.proof_checks.proofs.KnownStatements.{same_is}
use Rattle.soundness_laws.specs.Proofs.{TermProves, cites}
use Rattle.proof_checks.proofs.KnownFound.{same_found}
use Rattle.soundness_laws.proofs.Rules.{Sound, after, conj_i_sound, conj_e1_sound, conj_e2_sound}
use Rattle.soundness_laws.proofs.Rules.{disj_i1_sound, disj_i2_sound, disj_e_sound, imp_i_sound}
use Rattle.soundness_laws.proofs.Rules.{imp_e_sound, not_i_sound, not_e_sound, false_e_sound}
use Rattle.soundness_laws.proofs.Quantifiers.{all_i_sound, all_e_sound, ex_i_sound, ex_e_sound}

cites_sound : (n : ℕ) (scope : Scoped) (c : Cite) (goal : Formula) (answer : Answer)
    (s : List Statement) → looked_in scope c.name ≡ answer
    → cited c.name goal answer ≡ Ok s → TermProves n scope (T.Fact c) goal s
cites_sound n scope c goal (found theory name fact) s looked e = by
    (is_same (meaning fact) (meaning goal)) refl
  where
    by : (b : Bool) → is_same (meaning fact) (meaning goal) ≡ b
        → TermProves n scope (T.Fact c) goal s
    by true is = subst (λ k. TermProves n scope (T.Fact c) goal k)
        (same_found (sym (ap (λ b. cond b (Ok (meaning fact ∷ []))
        (Err (ProvesAnother c.name))) is) ∙ e))
        (cites c fact looked (same_is (meaning fact) (meaning goal) is))
    by false is = let wrong : ◌≡◌ {A = Found} (Err (ProvesAnother c.name)) (Ok s) = sym
        (ap (λ b. cond b (Ok (meaning fact ∷ [])) (Err (ProvesAnother c.name))) is) ∙ e in cc
cites_sound n scope c goal unknown s looked e = cc
cites_sound n scope c goal (ambiguous a b) s looked e = cc

turned : (n : ℕ) (scope : Scoped) {t form : Term} {goal : Formula} {s : List Statement} → t ≡ form
    → TermProves n scope form goal s → TermProves n scope t goal s
turned n scope {t} {form} {goal} {s} is d = subst (λ k. TermProves n scope k goal s) (sym is) d

fact_sound : (t : Term) (l : Term-F Term) (goal : Formula) (scope : Scoped) (s : List Statement)
    → t ≡ roll-Term l
    → and_then (step_within zero l goal) (of_step (λ _ _ _. Err ProofTooDeep) scope goal) ≡ Ok s
    → TermProves zero scope t goal s
unfolding step_within of_step
fact_sound t (Term-F.Fact c) goal scope s is e =
    turned zero scope (is ∙ T.rolls-Fact c)
    (cites_sound zero scope c goal (looked_in scope c.name) s refl e)
fact_sound t _ goal scope s is e = cc

module _ (n : ℕ) (scope : Scoped) (sound : Sound n) (t : Term) (goal : Formula)
    (s : List Statement) where
  outer : (q : Formula) → q ≡ roll-Formula (out-Formula q)
  outer q = sym (roll-out-Formula q)

  rule_sound : (l : Term-F Term) → t ≡ roll-Term l
      → after n scope sound goal (step_of l goal) ≡ Ok s → TermProves (suc n) scope t goal s
  unfolding step_of of_step
  rule_sound (Term-F.Fact c) is e = turned (suc n) scope (is ∙ T.rolls-Fact c)
      (cites_sound (suc n) scope c goal (looked_in scope c.name) s refl e)
  rule_sound (Term-F.ConjI x0 x1) is e =
      turned (suc n) scope (is ∙ T.rolls-ConjI x0 x1)
      (conj_i_sound n scope sound x0 x1 goal (out-Formula goal) s (outer goal) e)
  rule_sound (Term-F.ConjE1 x0 x1) is e = turned (suc n) scope (is ∙ T.rolls-ConjE1 x0 x1)
      (conj_e1_sound n scope sound x0 x1 goal s e)
  rule_sound (Term-F.ConjE2 x0 x1) is e = turned (suc n) scope (is ∙ T.rolls-ConjE2 x0 x1)
      (conj_e2_sound n scope sound x0 x1 goal s e)
  rule_sound (Term-F.DisjI1 x0) is e = turned (suc n) scope (is ∙ T.rolls-DisjI1 x0)
      (disj_i1_sound n scope sound x0 goal (out-Formula goal) s (outer goal) e)
  rule_sound (Term-F.DisjI2 x0) is e = turned (suc n) scope (is ∙ T.rolls-DisjI2 x0)
      (disj_i2_sound n scope sound x0 goal (out-Formula goal) s (outer goal) e)
  rule_sound (Term-F.DisjE x0 x1 x2 x3 x4 x5 x6) is e =
      turned (suc n) scope (is ∙ T.rolls-DisjE x0 x1 x2 x3 x4 x5 x6)
      (disj_e_sound n scope sound x0 x1 x2 x3 x4 x5 x6 goal s e)
  rule_sound (Term-F.ImpI x0 x1) is e =
      turned (suc n) scope (is ∙ T.rolls-ImpI x0 x1)
      (imp_i_sound n scope sound x0 x1 goal (out-Formula goal) s (outer goal) e)
  rule_sound (Term-F.ImpE x0 x1 x2) is e = turned (suc n) scope (is ∙ T.rolls-ImpE x0 x1 x2)
      (imp_e_sound n scope sound x0 x1 x2 goal s e)
  rule_sound (Term-F.NotI x0 x1) is e =
      turned (suc n) scope (is ∙ T.rolls-NotI x0 x1)
      (not_i_sound n scope sound x0 x1 goal (out-Formula goal) s (outer goal) e)
  rule_sound (Term-F.NotE x0 x1 x2) is e =
      turned (suc n) scope (is ∙ T.rolls-NotE x0 x1 x2)
      (not_e_sound n scope sound x0 x1 x2 goal (out-Formula goal) s (outer goal) e)
  rule_sound (Term-F.FalseE x0) is e = turned (suc n) scope (is ∙ T.rolls-FalseE x0)
      (false_e_sound n scope sound x0 goal s e)
  rule_sound (Term-F.AllI x0 x1) is e =
      turned (suc n) scope (is ∙ T.rolls-AllI x0 x1)
      (all_i_sound n scope sound x0 x1 goal (out-Formula goal) s (outer goal) e)
  rule_sound (Term-F.AllE x0 x1 x2) is e =
      turned (suc n) scope (is ∙ T.rolls-AllE x0 x1 x2)
      (all_e_sound n scope sound x0 x1 x2 goal (out-Formula x0) s (outer x0) e)
  rule_sound (Term-F.ExI x0 x1) is e =
      turned (suc n) scope (is ∙ T.rolls-ExI x0 x1)
      (ex_i_sound n scope sound x0 x1 goal (out-Formula goal) s (outer goal) e)
  rule_sound (Term-F.ExE x0 x1 x2 x3 x4) is e =
      turned (suc n) scope (is ∙ T.rolls-ExE x0 x1 x2 x3 x4)
      (ex_e_sound n scope sound x0 x1 x2 x3 x4 goal (out-Formula x0) s (outer x0) e)

pub sound : (n : ℕ) → Sound n
unfolding checked_within step_within
sound zero t goal scope s e = fact_sound t (out-Term t) goal scope s (sym (roll-out-Term t)) e
sound (suc n) t goal scope s e = rule_sound n scope (sound n) t goal s (out-Term t)
    (sym (roll-out-Term t)) e
