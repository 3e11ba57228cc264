-- The parts of readable formulas are readable.
use Rattle.std.proofs.Common.{◌≡◌, ap, subst, ◌∙◌}
use Rattle.nj_formula.specs.declared.formula.Formula.{Formula, out-Formula}
use Rattle.nj_formula.specs.declared.formula.Formula.TheOpen.{Formula-F}
use Rattle.nj_formula.specs.declared.formula.Formula.TheVariants as F
use Rattle.nj_formula.specs.declared.formula.Formula.TheVariants.{rolls-Not, rolls-And, rolls-Or, rolls-Implies}
use Rattle.nj_formula.proofs.KnownFormulas.{fold-False, is_rolled}
use Rattle.nj_formula.proofs.KnownMeaning.{meaning-False}
use Rattle.nj_syntax.specs.declared.operator.Operator.{Operator}
use Rattle.nj_syntax.specs.Deepest.{deepest}
use Rattle.nj_syntax.specs.Spellable.{formula_layer}
use Rattle.nj_syntax.specs.Within.{is_within}
use Rattle.nj_syntax.specs.Readable.{IsReadable}
use Rattle.nj_syntax.proofs.KnownReadable.{negated_readable, operands_readable}

pub and_readable : (f a b : Formula) → out-Formula f ≡ Formula-F.And a b → IsReadable f → IsReadable a × IsReadable b
and_readable f a b out readable = operands_readable Operator.And a b (subst IsReadable (is_rolled f (Formula-F.And a b) out ∙ rolls-And a b) readable)

pub or_readable : (f a b : Formula) → out-Formula f ≡ Formula-F.Or a b → IsReadable f → IsReadable a × IsReadable b
or_readable f a b out readable = operands_readable Operator.Or a b (subst IsReadable (is_rolled f (Formula-F.Or a b) out ∙ rolls-Or a b) readable)

pub implies_readable : (f a b : Formula) → out-Formula f ≡ Formula-F.Implies a b → IsReadable f → IsReadable a × IsReadable b
implies_readable f a b out readable = operands_readable Operator.Implies a b (subst IsReadable (is_rolled f (Formula-F.Implies a b) out ∙ rolls-Implies a b) readable)

pub not_readable : (f a : Formula) → out-Formula f ≡ Formula-F.Not a → IsReadable f → IsReadable a
not_readable f a out readable = negated_readable a (subst IsReadable (is_rolled f (Formula-F.Not a) out ∙ rolls-Not a) readable)

pub false_readable : IsReadable F.False
false_readable = (ap (λ f. f 0) (fold-False formula_layer), ap (λ s. is_within deepest s 10 0) meaning-False)
