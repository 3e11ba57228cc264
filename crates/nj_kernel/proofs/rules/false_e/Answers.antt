use Rattle.std.proofs.Common.{◌≡◌, ap, refl, sym, ◌∙◌}
use Rattle.nj_formula.specs.Statement.{falsity}
use Rattle.nj_formula.specs.Meaning.{meaning}
use Rattle.nj_formula.proofs.KnownMeaning.{meaning-False}
use Rattle.nj_kernel.specs.Theorem.{shown}
use Rattle.nj_kernel.specs.Nj as Nj
use Rattle.nj_kernel.proofs.DeriveLemmas.{along, by_one}
use Rattle.nj_kernel.proofs.rules.false_e.Goals as goal

pub also_copied-requires : goal.also_copied-requires
also_copied-requires c =
    let is : shown c.args.t.now ≡ falsity = sym c.concl.ensures ∙ (ap meaning c.in-False.is ∙ meaning-False) in
    by_one Nj.false_e (along refl is c.args.t.now.derivable)
