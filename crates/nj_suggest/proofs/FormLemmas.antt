-- A term of no form that was tried is of one that is tried next.
use Rattle.std.proofs.Common.{◌≡◌, ℕ, List, refl, sym, ◌∙◌, ap}
use Rattle.nj_formula.specs.declared.argument.Argument.{Argument}
use Rattle.nj_formula.specs.declared.formula.Formula.{Formula}
use Rattle.proof_terms.specs.declared.term.Cite.{Cite}
use Rattle.proof_terms.specs.declared.term.Term.{Term, out-Term, roll-Term, roll-out-Term}
use Rattle.proof_terms.specs.declared.term.Term.TheOpen.{Term-F}
use Rattle.proof_terms.specs.declared.term.Term.TheVariants as T
use Rattle.nj_suggest.specs.Forms.{IsInstancing, IsEliminating}

back : {t : Term} {l : Term-F Term} {form : Term} → out-Term t ≡ l → roll-Term l ≡ form → t ≡ form
back {t} is rolled = sym (roll-out-Term t) ∙ (ap roll-Term is ∙ rolled)

pub after_plain : (t : Term)
    → ((c : Cite) → t ≡ T.Fact c → ⊥)
    → ((u v : Term) → t ≡ T.ConjI u v → ⊥)
    → ((b : Formula) (u : Term) → t ≡ T.ConjE1 b u → ⊥)
    → ((a : Formula) (u : Term) → t ≡ T.ConjE2 a u → ⊥)
    → ((u : Term) → t ≡ T.DisjI1 u → ⊥)
    → ((u : Term) → t ≡ T.DisjI2 u → ⊥)
    → ((x : List ℕ) (u : Term) → t ≡ T.ImpI x u → ⊥)
    → ((x : List ℕ) (u : Term) → t ≡ T.NotI x u → ⊥)
    → ((u : Term) → t ≡ T.FalseE u → ⊥)
    → ((x : List ℕ) (u : Term) → t ≡ T.AllI x u → ⊥)
    → IsEliminating (out-Term t)
after_plain t not_Fact not_ConjI not_ConjE1 not_ConjE2 not_DisjI1
    not_DisjI2 not_ImpI not_NotI not_FalseE not_AllI =
    by (out-Term t) refl
  where
    by : (l : Term-F Term) → out-Term t ≡ l → IsEliminating l
    by (Term-F.Fact c) is = absurd (not_Fact c (back is (T.rolls-Fact c)))
    by (Term-F.ConjI u v) is = absurd (not_ConjI u v (back is (T.rolls-ConjI u v)))
    by (Term-F.ConjE1 b u) is = absurd (not_ConjE1 b u (back is (T.rolls-ConjE1 b u)))
    by (Term-F.ConjE2 a u) is = absurd (not_ConjE2 a u (back is (T.rolls-ConjE2 a u)))
    by (Term-F.DisjI1 u) is = absurd (not_DisjI1 u (back is (T.rolls-DisjI1 u)))
    by (Term-F.DisjI2 u) is = absurd (not_DisjI2 u (back is (T.rolls-DisjI2 u)))
    by (Term-F.ImpI x u) is = absurd (not_ImpI x u (back is (T.rolls-ImpI x u)))
    by (Term-F.NotI x u) is = absurd (not_NotI x u (back is (T.rolls-NotI x u)))
    by (Term-F.FalseE u) is = absurd (not_FalseE u (back is (T.rolls-FalseE u)))
    by (Term-F.AllI x u) is = absurd (not_AllI x u (back is (T.rolls-AllI x u)))
    by l is = tt

pub after_eliminating : (t : Term) → IsEliminating (out-Term t)
    → ((a b : Formula) (u : Term) (x : List ℕ) (v : Term) (y : List ℕ) (w : Term)
    → t ≡ T.DisjE a b u x v y w → ⊥)
    → ((a : Formula) (u v : Term) → t ≡ T.ImpE a u v → ⊥)
    → ((a : Formula) (u v : Term) → t ≡ T.NotE a u v → ⊥)
    → IsInstancing (out-Term t)
after_eliminating t here not_DisjE not_ImpE not_NotE =
    by (out-Term t) refl here
  where
    by : (l : Term-F Term) → out-Term t ≡ l → IsEliminating l → IsInstancing l
    by (Term-F.DisjE a b u x v y w) is here =
        absurd (not_DisjE a b u x v y w (back is (T.rolls-DisjE a b u x v y w)))
    by (Term-F.ImpE a u v) is here = absurd (not_ImpE a u v (back is (T.rolls-ImpE a u v)))
    by (Term-F.NotE a u v) is here = absurd (not_NotE a u v (back is (T.rolls-NotE a u v)))
    by l is here = here

pub after_instancing : (t : Term) → IsInstancing (out-Term t)
    → ((q : Formula) (s : Argument) (u : Term) → t ≡ T.AllE q s u → ⊥)
    → ((s : Argument) (u : Term) → t ≡ T.ExI s u → ⊥)
    → ((q : Formula) (x h : List ℕ) (u v : Term) → t ≡ T.ExE q x h u v → ⊥)
    → ⊥
after_instancing t here not_AllE not_ExI not_ExE =
    by (out-Term t) refl here
  where
    by : (l : Term-F Term) → out-Term t ≡ l → IsInstancing l → ⊥
    by (Term-F.AllE q s u) is here = absurd (not_AllE q s u (back is (T.rolls-AllE q s u)))
    by (Term-F.ExI s u) is here = absurd (not_ExI s u (back is (T.rolls-ExI s u)))
    by (Term-F.ExE q x h u v) is here =
        absurd (not_ExE q x h u v (back is (T.rolls-ExE q x h u v)))
    by l is here = here
