-- The outermost layers of formulas and quantifier terms of each form.
use Rattle.std.proofs.Common.{◌≡◌, ℕ, List, sym, ◌∙◌, ap}
use Rattle.nj_formula.specs.declared.argument.Argument.{Argument}
use Rattle.nj_formula.specs.declared.formula.Formula.{Formula, out-Formula, out-roll-Formula}
use Rattle.nj_formula.specs.declared.formula.Formula.TheOpen.{Formula-F}
use Rattle.nj_formula.specs.declared.formula.Formula.TheVariants as F
use Rattle.proof_terms.specs.declared.term.Term.{Term, out-Term, out-roll-Term}
use Rattle.proof_terms.specs.declared.term.Term.TheOpen.{Term-F}
use Rattle.proof_terms.specs.declared.term.Term.TheVariants as T

pub out-False : out-Formula F.False ≡ Formula-F.False
out-False = ap out-Formula (sym F.rolls-False) ∙ out-roll-Formula Formula-F.False

pub out-Not : (a : Formula) → out-Formula (F.Not a) ≡ Formula-F.Not a
out-Not a = ap out-Formula (sym (F.rolls-Not a)) ∙ out-roll-Formula (Formula-F.Not a)

pub out-And : (a b : Formula) → out-Formula (F.And a b) ≡ Formula-F.And a b
out-And a b = ap out-Formula (sym (F.rolls-And a b)) ∙ out-roll-Formula (Formula-F.And a b)

pub out-Or : (a b : Formula) → out-Formula (F.Or a b) ≡ Formula-F.Or a b
out-Or a b = ap out-Formula (sym (F.rolls-Or a b)) ∙ out-roll-Formula (Formula-F.Or a b)

pub out-All : (y : List ℕ) (p : Formula) → out-Formula (F.All y p) ≡ Formula-F.All y p
out-All y p = ap out-Formula (sym (F.rolls-All y p)) ∙ out-roll-Formula (Formula-F.All y p)

pub out-Exists : (y : List ℕ) (p : Formula) → out-Formula (F.Exists y p) ≡ Formula-F.Exists y p
out-Exists y p = ap out-Formula (sym (F.rolls-Exists y p))
    ∙ out-roll-Formula (Formula-F.Exists y p)

pub out-AllI : (x : List ℕ) (t : Term) → out-Term (T.AllI x t) ≡ Term-F.AllI x t
out-AllI x t = ap out-Term (sym (T.rolls-AllI x t)) ∙ out-roll-Term (Term-F.AllI x t)

pub out-AllE : (q : Formula) (s : Argument) (t : Term)
    → out-Term (T.AllE q s t) ≡ Term-F.AllE q s t
out-AllE q s t = ap out-Term (sym (T.rolls-AllE q s t)) ∙ out-roll-Term (Term-F.AllE q s t)

pub out-ExI : (s : Argument) (t : Term) → out-Term (T.ExI s t) ≡ Term-F.ExI s t
out-ExI s t = ap out-Term (sym (T.rolls-ExI s t)) ∙ out-roll-Term (Term-F.ExI s t)

pub out-ExE : (q : Formula) (x h : List ℕ) (t u : Term)
    → out-Term (T.ExE q x h t u) ≡ Term-F.ExE q x h t u
out-ExE q x h t u = ap out-Term (sym (T.rolls-ExE q x h t u))
    ∙ out-roll-Term (Term-F.ExE q x h t u)
