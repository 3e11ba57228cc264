-- A term of no form that was tried is of one that is tried next.
use Rattle.std.proofs.Common.{◌≡◌, ℕ, List, refl, sym, ◌∙◌, ap}
use Rattle.nj_formula.specs.declared.argument.Argument.{Argument}
use Rattle.nj_formula.specs.declared.formula.Formula.{Formula}
use Rattle.proof_terms.specs.declared.term.Cite.{Cite}
use Rattle.proof_terms.specs.declared.term.Term.{Term, out-Term, roll-Term, roll-out-Term}
use Rattle.proof_terms.specs.declared.term.Term.TheOpen.{Term-F}
use Rattle.proof_terms.specs.declared.term.Term.TheVariants as T
use Rattle.proof_checks.specs.Forms.{IsQuantified, IsImplied, IsDisjoined}

back : (t : Term) (l : Term-F Term) (form : Term) → out-Term t ≡ l → roll-Term l ≡ form → t ≡ form
back t l form is rolled = sym (roll-out-Term t) ∙ (ap roll-Term is ∙ rolled)

pub after_step_of : (t : Term) → ((x0 : Cite) → t ≡ T.Fact x0 → ⊥)
    → ((x0 : Term) (x1 : Term) → t ≡ T.ConjI x0 x1 → ⊥)
    → ((x0 : Formula) (x1 : Term) → t ≡ T.ConjE1 x0 x1 → ⊥)
    → ((x0 : Formula) (x1 : Term) → t ≡ T.ConjE2 x0 x1 → ⊥)
    → IsDisjoined (out-Term t)
after_step_of t not_Fact not_ConjI not_ConjE1 not_ConjE2 = by (out-Term t) refl
  where
    by : (l : Term-F Term) → out-Term t ≡ l → IsDisjoined l
    by (Term-F.Fact x0) is = absurd (not_Fact x0 (back t (Term-F.Fact x0) (T.Fact x0) is (T.rolls-Fact x0)))
    by (Term-F.ConjI x0 x1) is = absurd (not_ConjI x0 x1 (back t (Term-F.ConjI x0 x1) (T.ConjI x0 x1) is (T.rolls-ConjI x0 x1)))
    by (Term-F.ConjE1 x0 x1) is = absurd (not_ConjE1 x0 x1 (back t (Term-F.ConjE1 x0 x1) (T.ConjE1 x0 x1) is (T.rolls-ConjE1 x0 x1)))
    by (Term-F.ConjE2 x0 x1) is = absurd (not_ConjE2 x0 x1 (back t (Term-F.ConjE2 x0 x1) (T.ConjE2 x0 x1) is (T.rolls-ConjE2 x0 x1)))
    by l is = tt

pub after_disjoined : (t : Term) → IsDisjoined (out-Term t) → ((x0 : Term) → t ≡ T.DisjI1 x0 → ⊥)
    → ((x0 : Term) → t ≡ T.DisjI2 x0 → ⊥)
    → ((x0 : Formula) (x1 : Formula) (x2 : Term) (x3 : List ℕ) (x4 : Term) (x5 : List ℕ) (x6 : Term) → t ≡ T.DisjE x0 x1 x2 x3 x4 x5 x6 → ⊥)
    → IsImplied (out-Term t)
after_disjoined t is_one not_DisjI1 not_DisjI2 not_DisjE = by (out-Term t) refl is_one
  where
    by : (l : Term-F Term) → out-Term t ≡ l → IsDisjoined l → IsImplied l
    by (Term-F.DisjI1 x0) is here = absurd (not_DisjI1 x0 (back t (Term-F.DisjI1 x0) (T.DisjI1 x0) is (T.rolls-DisjI1 x0)))
    by (Term-F.DisjI2 x0) is here = absurd (not_DisjI2 x0 (back t (Term-F.DisjI2 x0) (T.DisjI2 x0) is (T.rolls-DisjI2 x0)))
    by (Term-F.DisjE x0 x1 x2 x3 x4 x5 x6) is here = absurd (not_DisjE x0 x1 x2 x3 x4 x5 x6 (back t (Term-F.DisjE x0 x1 x2 x3 x4 x5 x6) (T.DisjE x0 x1 x2 x3 x4 x5 x6) is (T.rolls-DisjE x0 x1 x2 x3 x4 x5 x6)))
    by l is here = here

pub after_implied : (t : Term) → IsImplied (out-Term t) → ((x0 : List ℕ) (x1 : Term) → t ≡ T.ImpI x0 x1 → ⊥)
    → ((x0 : Formula) (x1 : Term) (x2 : Term) → t ≡ T.ImpE x0 x1 x2 → ⊥)
    → ((x0 : List ℕ) (x1 : Term) → t ≡ T.NotI x0 x1 → ⊥)
    → ((x0 : Formula) (x1 : Term) (x2 : Term) → t ≡ T.NotE x0 x1 x2 → ⊥)
    → ((x0 : Term) → t ≡ T.FalseE x0 → ⊥)
    → IsQuantified (out-Term t)
after_implied t is_one not_ImpI not_ImpE not_NotI not_NotE not_FalseE = by (out-Term t) refl is_one
  where
    by : (l : Term-F Term) → out-Term t ≡ l → IsImplied l → IsQuantified l
    by (Term-F.ImpI x0 x1) is here = absurd (not_ImpI x0 x1 (back t (Term-F.ImpI x0 x1) (T.ImpI x0 x1) is (T.rolls-ImpI x0 x1)))
    by (Term-F.ImpE x0 x1 x2) is here = absurd (not_ImpE x0 x1 x2 (back t (Term-F.ImpE x0 x1 x2) (T.ImpE x0 x1 x2) is (T.rolls-ImpE x0 x1 x2)))
    by (Term-F.NotI x0 x1) is here = absurd (not_NotI x0 x1 (back t (Term-F.NotI x0 x1) (T.NotI x0 x1) is (T.rolls-NotI x0 x1)))
    by (Term-F.NotE x0 x1 x2) is here = absurd (not_NotE x0 x1 x2 (back t (Term-F.NotE x0 x1 x2) (T.NotE x0 x1 x2) is (T.rolls-NotE x0 x1 x2)))
    by (Term-F.FalseE x0) is here = absurd (not_FalseE x0 (back t (Term-F.FalseE x0) (T.FalseE x0) is (T.rolls-FalseE x0)))
    by l is here = here

pub after_quantified : (t : Term) → IsQuantified (out-Term t) → ((x0 : List ℕ) (x1 : Term) → t ≡ T.AllI x0 x1 → ⊥)
    → ((x0 : Formula) (x1 : Argument) (x2 : Term) → t ≡ T.AllE x0 x1 x2 → ⊥)
    → ((x0 : Argument) (x1 : Term) → t ≡ T.ExI x0 x1 → ⊥)
    → ((x0 : Formula) (x1 : List ℕ) (x2 : List ℕ) (x3 : Term) (x4 : Term) → t ≡ T.ExE x0 x1 x2 x3 x4 → ⊥)
    → ⊥
after_quantified t is_one not_AllI not_AllE not_ExI not_ExE = by (out-Term t) refl is_one
  where
    by : (l : Term-F Term) → out-Term t ≡ l → IsQuantified l → ⊥
    by (Term-F.AllI x0 x1) is here = absurd (not_AllI x0 x1 (back t (Term-F.AllI x0 x1) (T.AllI x0 x1) is (T.rolls-AllI x0 x1)))
    by (Term-F.AllE x0 x1 x2) is here = absurd (not_AllE x0 x1 x2 (back t (Term-F.AllE x0 x1 x2) (T.AllE x0 x1 x2) is (T.rolls-AllE x0 x1 x2)))
    by (Term-F.ExI x0 x1) is here = absurd (not_ExI x0 x1 (back t (Term-F.ExI x0 x1) (T.ExI x0 x1) is (T.rolls-ExI x0 x1)))
    by (Term-F.ExE x0 x1 x2 x3 x4) is here = absurd (not_ExE x0 x1 x2 x3 x4 (back t (Term-F.ExE x0 x1 x2 x3 x4) (T.ExE x0 x1 x2 x3 x4) is (T.rolls-ExE x0 x1 x2 x3 x4)))
    by l is here = here
