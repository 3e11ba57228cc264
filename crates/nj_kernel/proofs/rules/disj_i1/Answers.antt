use Rattle.std.proofs.Common.{◌≡◌, refl, sym, ◌∙◌}
use Rattle.nj_formula.specs.Statement.{disj}
use Rattle.nj_formula.specs.Meaning.{meaning}
use Rattle.nj_kernel.specs.Theorem.{shown}
use Rattle.nj_kernel.specs.Nj as Nj
use Rattle.nj_kernel.proofs.DeriveLemmas.{along, by_one, paired}
use Rattle.nj_kernel.proofs.rules.disj_i1.Goals as goal

pub also-requires : goal.also-requires
also-requires c =
    let says : meaning c.in_ok-concl.concl ≡ disj (shown c.args.t.now) (meaning c.args.other.now) = c.in_ok-concl.ensures ∙ paired disj c.concl.ensures refl in
    along refl (sym says) (by_one Nj.disj_i1 c.args.t.now.derivable)
