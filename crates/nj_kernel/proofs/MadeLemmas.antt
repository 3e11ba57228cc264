-- What a formula that a rule makes says.
use Rattle.std.proofs.Common.{◌≡◌, ap, ◌∙◌}
use Rattle.nj_formula.specs.declared.formula.Formula.{Formula}
use Rattle.nj_formula.specs.declared.formula.Formula.TheVariants.{Not}
use Rattle.nj_formula.specs.Statement.{Statement, neg}
use Rattle.nj_formula.specs.Meaning.{meaning}
use Rattle.nj_formula.proofs.KnownMeaning.{meaning-Not}

pub made_Not : {f : Formula} (a : Formula) {s : Statement} → f ≡ Not a → meaning a ≡ s → meaning f ≡ neg s
made_Not a is h = ap meaning is ∙ (meaning-Not a ∙ ap neg h)
