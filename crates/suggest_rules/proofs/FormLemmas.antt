-- What the outermost layer of a formula is, by its form.
use Rattle.std.proofs.Common.{◌≡◌, ℕ, List, ap, sym, ◌∙◌}
use Rattle.nj_formula.specs.declared.argument.Argument.{Argument}
use Rattle.nj_formula.specs.declared.formula.Formula.{Formula, out-Formula, out-roll-Formula}
use Rattle.nj_formula.specs.declared.formula.Formula.TheOpen.{Formula-F}
use Rattle.nj_formula.specs.declared.formula.Formula.TheVariants.{False, Atom, And}
use Rattle.nj_formula.specs.declared.formula.Formula.TheVariants.{rolls-False, rolls-Atom, rolls-And}

pub out-False : out-Formula False ≡ Formula-F.False
out-False = ap out-Formula (sym rolls-False) ∙ out-roll-Formula Formula-F.False

pub out-Atom : (p : List ℕ) (arguments : List Argument) → out-Formula (Atom p arguments) ≡ Formula-F.Atom p arguments
out-Atom p arguments = ap out-Formula (sym (rolls-Atom p arguments)) ∙ out-roll-Formula (Formula-F.Atom p arguments)

pub out-And : (a b : Formula) → out-Formula (And a b) ≡ Formula-F.And a b
out-And a b = ap out-Formula (sym (rolls-And a b)) ∙ out-roll-Formula (Formula-F.And a b)
