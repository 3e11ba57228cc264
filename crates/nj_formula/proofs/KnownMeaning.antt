-- What a formula of each form says, by what its parts say.
use Rattle.std.proofs.Common.{◌≡◌, ℕ, List, ap, sym, ◌∙◌}
use Rattle.nj_formula.specs.declared.argument.Argument.{Argument}
use Rattle.nj_formula.specs.declared.formula.Formula.{Formula, fold-roll-Formula}
use Rattle.nj_formula.specs.declared.formula.Formula.TheOpen.{Formula-F}
use Rattle.nj_formula.specs.declared.formula.Formula.TheVariants.{False, Atom, Not, And, Or, Implies, All, Exists, rolls-False, rolls-Atom, rolls-Not, rolls-And, rolls-Or, rolls-Implies, rolls-All, rolls-Exists}
use Rattle.nj_formula.specs.Statement.{Statement, falsity, atom, neg, conj, disj, implies, every, exists}
use Rattle.nj_formula.specs.Meaning.{layer_meaning, meaning}

pub meaning-False : meaning False ≡ falsity
meaning-False = ap meaning (sym rolls-False) ∙ fold-roll-Formula Statement layer_meaning Formula-F.False

pub meaning-Atom : (p : List ℕ) (arguments : List Argument) → meaning (Atom p arguments) ≡ atom p arguments
meaning-Atom p arguments = ap meaning (sym (rolls-Atom p arguments)) ∙ fold-roll-Formula Statement layer_meaning (Formula-F.Atom p arguments)

pub meaning-Not : (a : Formula) → meaning (Not a) ≡ neg (meaning a)
meaning-Not a = ap meaning (sym (rolls-Not a)) ∙ fold-roll-Formula Statement layer_meaning (Formula-F.Not a)

pub meaning-And : (a b : Formula) → meaning (And a b) ≡ conj (meaning a) (meaning b)
meaning-And a b = ap meaning (sym (rolls-And a b)) ∙ fold-roll-Formula Statement layer_meaning (Formula-F.And a b)

pub meaning-Or : (a b : Formula) → meaning (Or a b) ≡ disj (meaning a) (meaning b)
meaning-Or a b = ap meaning (sym (rolls-Or a b)) ∙ fold-roll-Formula Statement layer_meaning (Formula-F.Or a b)

pub meaning-Implies : (a b : Formula) → meaning (Implies a b) ≡ implies (meaning a) (meaning b)
meaning-Implies a b = ap meaning (sym (rolls-Implies a b)) ∙ fold-roll-Formula Statement layer_meaning (Formula-F.Implies a b)

pub meaning-All : (x : List ℕ) (body : Formula) → meaning (All x body) ≡ every (meaning body)
meaning-All x body = ap meaning (sym (rolls-All x body)) ∙ fold-roll-Formula Statement layer_meaning (Formula-F.All x body)

pub meaning-Exists : (x : List ℕ) (body : Formula) → meaning (Exists x body) ≡ exists (meaning body)
meaning-Exists x body = ap meaning (sym (rolls-Exists x body)) ∙ fold-roll-Formula Statement layer_meaning (Formula-F.Exists x body)
