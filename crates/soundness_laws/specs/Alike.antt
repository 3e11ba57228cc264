-- Proof terms that say the same, rule by rule: where they cite, discharge or quote, the names are
-- the same and the formulas say the same (this project's own).
use Rattle.std.specs.Prelude.{◌≡◌, ⊤, ℕ, List, [], ◌∷◌}
use Rattle.nj_formula.specs.declared.formula.Formula.{Formula}
use Rattle.nj_formula.specs.Meaning.{meaning}
use Rattle.theory_ctx.specs.declared.local.Local.{Local}
use Rattle.proof_terms.specs.declared.term.Cite.{Cite}
use Rattle.proof_terms.specs.declared.term.Term.{Term}
use Rattle.proof_terms.specs.declared.term.Term.TheVariants.{Fact, ConjI, ConjE1, ConjE2, DisjI1, DisjI2, DisjE}
use Rattle.proof_terms.specs.declared.term.Term.TheVariants.{ImpI, ImpE, NotI, NotE, FalseE}

-- the two terms say the same, and have no rule of a quantifier
pub data IsAlike : Term → Term → Type 0 where
  fact : {c d : Cite} → c.name ≡ d.name → IsAlike (Fact c) (Fact d)
  conj_i : {t t' u u' : Term} → IsAlike t t' → IsAlike u u' → IsAlike (ConjI t u) (ConjI t' u')
  conj_e1 : {b b' : Formula} {t t' : Term} → meaning b ≡ meaning b' → IsAlike t t'
      → IsAlike (ConjE1 b t) (ConjE1 b' t')
  conj_e2 : {a a' : Formula} {t t' : Term} → meaning a ≡ meaning a' → IsAlike t t'
      → IsAlike (ConjE2 a t) (ConjE2 a' t')
  disj_i1 : {t t' : Term} → IsAlike t t' → IsAlike (DisjI1 t) (DisjI1 t')
  disj_i2 : {t t' : Term} → IsAlike t t' → IsAlike (DisjI2 t) (DisjI2 t')
  disj_e : {a a' b b' : Formula} {t t' u u' v v' : Term} {x x' y y' : List ℕ}
      → meaning a ≡ meaning a' → meaning b ≡ meaning b' → IsAlike t t'
      → x ≡ x' → IsAlike u u' → y ≡ y' → IsAlike v v'
      → IsAlike (DisjE a b t x u y v) (DisjE a' b' t' x' u' y' v')
  imp_i : {x x' : List ℕ} {t t' : Term} → x ≡ x' → IsAlike t t' → IsAlike (ImpI x t) (ImpI x' t')
  imp_e : {a a' : Formula} {t t' u u' : Term} → meaning a ≡ meaning a'
      → IsAlike t t' → IsAlike u u' → IsAlike (ImpE a t u) (ImpE a' t' u')
  not_i : {x x' : List ℕ} {t t' : Term} → x ≡ x' → IsAlike t t' → IsAlike (NotI x t) (NotI x' t')
  not_e : {a a' : Formula} {t t' u u' : Term} → meaning a ≡ meaning a'
      → IsAlike t t' → IsAlike u u' → IsAlike (NotE a t u) (NotE a' t' u')
  false_e : {t t' : Term} → IsAlike t t' → IsAlike (FalseE t) (FalseE t')

-- local facts of the same names that say the same, one by one
abbrev pub SayAlike : List Local → List Local → Type 0
SayAlike [] [] = ⊤
SayAlike (one ∷ ones) (other ∷ others) = (one.name ≡ other.name)
    × (meaning one.formula ≡ meaning other.formula) × SayAlike ones others
SayAlike _ _ = ⊥
