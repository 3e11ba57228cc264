use Rattle.std.proofs.Common.{◌≡◌, ap, refl, sym, ◌∙◌}
use Rattle.nj_formula.specs.Statement.{conj}
use Rattle.nj_formula.specs.Meaning.{meaning}
use Rattle.nj_formula.proofs.KnownMeaning.{meaning-And}
use Rattle.nj_kernel.specs.Theorem.{shown}
use Rattle.nj_kernel.specs.Nj as Nj
use Rattle.nj_kernel.proofs.DeriveLemmas.{along, by_one}
use Rattle.nj_kernel.proofs.rules.conj_e1.Goals as goal

pub also_copied-requires : goal.also_copied-requires
also_copied-requires c =
    let is : shown c.args.t.now ≡ conj (meaning c.in-And.a) (meaning c.in-And.field-1) = sym c.concl.ensures ∙ (ap meaning c.in-And.is ∙ meaning-And _ _) in
    along refl (ap meaning (sym c.get.ensures)) (by_one Nj.conj_e1 (along refl is c.args.t.now.derivable))
