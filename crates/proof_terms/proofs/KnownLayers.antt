-- The outermost layer of a term of each form.
use Rattle.std.proofs.Common.{◌≡◌, ℕ, List, ap, sym, ◌∙◌}
use Rattle.nj_formula.specs.declared.formula.Formula.{Formula}
use Rattle.proof_terms.specs.declared.term.Cite.{Cite}
use Rattle.proof_terms.specs.declared.term.Term.{Term, out-Term, out-roll-Term}
use Rattle.proof_terms.specs.declared.term.Term.TheOpen.{Term-F}
use Rattle.proof_terms.specs.declared.term.Term.TheVariants.{Fact, ConjI, ConjE1, ConjE2, DisjI1, DisjI2, DisjE, ImpI, ImpE, NotI, NotE, FalseE}
use Rattle.proof_terms.specs.declared.term.Term.TheVariants.{rolls-Fact, rolls-ConjI, rolls-ConjE1, rolls-ConjE2, rolls-DisjI1, rolls-DisjI2, rolls-DisjE, rolls-ImpI, rolls-ImpE, rolls-NotI, rolls-NotE, rolls-FalseE}

pub out-Fact : (c : Cite) → out-Term (Fact c) ≡ Term-F.Fact c
out-Fact c = ap out-Term (sym (rolls-Fact c)) ∙ out-roll-Term (Term-F.Fact c)

pub out-ConjI : (t u : Term) → out-Term (ConjI t u) ≡ Term-F.ConjI t u
out-ConjI t u = ap out-Term (sym (rolls-ConjI t u)) ∙ out-roll-Term (Term-F.ConjI t u)

pub out-ConjE1 : (b : Formula) (t : Term) → out-Term (ConjE1 b t) ≡ Term-F.ConjE1 b t
out-ConjE1 b t = ap out-Term (sym (rolls-ConjE1 b t)) ∙ out-roll-Term (Term-F.ConjE1 b t)

pub out-ConjE2 : (a : Formula) (t : Term) → out-Term (ConjE2 a t) ≡ Term-F.ConjE2 a t
out-ConjE2 a t = ap out-Term (sym (rolls-ConjE2 a t)) ∙ out-roll-Term (Term-F.ConjE2 a t)

pub out-DisjI1 : (t : Term) → out-Term (DisjI1 t) ≡ Term-F.DisjI1 t
out-DisjI1 t = ap out-Term (sym (rolls-DisjI1 t)) ∙ out-roll-Term (Term-F.DisjI1 t)

pub out-DisjI2 : (t : Term) → out-Term (DisjI2 t) ≡ Term-F.DisjI2 t
out-DisjI2 t = ap out-Term (sym (rolls-DisjI2 t)) ∙ out-roll-Term (Term-F.DisjI2 t)

pub out-DisjE : (a b : Formula) (t : Term) (x : List ℕ) (u : Term) (y : List ℕ) (v : Term) → out-Term (DisjE a b t x u y v) ≡ Term-F.DisjE a b t x u y v
out-DisjE a b t x u y v = ap out-Term (sym (rolls-DisjE a b t x u y v)) ∙ out-roll-Term (Term-F.DisjE a b t x u y v)

pub out-ImpI : (x : List ℕ) (t : Term) → out-Term (ImpI x t) ≡ Term-F.ImpI x t
out-ImpI x t = ap out-Term (sym (rolls-ImpI x t)) ∙ out-roll-Term (Term-F.ImpI x t)

pub out-ImpE : (a : Formula) (t u : Term) → out-Term (ImpE a t u) ≡ Term-F.ImpE a t u
out-ImpE a t u = ap out-Term (sym (rolls-ImpE a t u)) ∙ out-roll-Term (Term-F.ImpE a t u)

pub out-NotI : (x : List ℕ) (t : Term) → out-Term (NotI x t) ≡ Term-F.NotI x t
out-NotI x t = ap out-Term (sym (rolls-NotI x t)) ∙ out-roll-Term (Term-F.NotI x t)

pub out-NotE : (a : Formula) (t u : Term) → out-Term (NotE a t u) ≡ Term-F.NotE a t u
out-NotE a t u = ap out-Term (sym (rolls-NotE a t u)) ∙ out-roll-Term (Term-F.NotE a t u)

pub out-FalseE : (t : Term) → out-Term (FalseE t) ≡ Term-F.FalseE t
out-FalseE t = ap out-Term (sym (rolls-FalseE t)) ∙ out-roll-Term (Term-F.FalseE t)
