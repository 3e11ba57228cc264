use Rattle.std.proofs.Common.{rules, ◌≡◌, ap, refl, sym, ◌∙◌}
use Rattle.nj_formula.specs.Statement.{neg}
use Rattle.nj_formula.specs.Meaning.{meaning}
use Rattle.nj_formula.proofs.KnownMeaning.{meaning-Not, meaning-False}
use Rattle.nj_kernel.specs.Theorem.{shown}
use Rattle.nj_kernel.specs.Nj as Nj
use Rattle.nj_kernel.proofs.SetsLemmas.{Lists-same, Lists-either}
use Rattle.nj_kernel.proofs.DeriveLemmas.{along, by_two}
use Rattle.nj_kernel.proofs.rules.not_e.Goals as goal

pub joined-requires-clause-rule : goal.joined-requires-clause-rule
joined-requires-clause-rule c = λ s listed.
    let is : shown c.args.t.now ≡ neg (meaning c.in-Not.a) = sym c.concl.ensures ∙ (ap meaning c.in-Not.is ∙ meaning-Not _) in
    let fits : shown c.args.u.now ≡ meaning c.in-Not.a = search rules in
    let all = Lists-either _ _ _ listed (Lists-same c.hyps.ensures.value) (Lists-same c.hyps-in-Not.ensures.value) in
    along refl (sym meaning-False) (by_two (Nj.not_e all) (along refl is c.args.t.now.derivable) (along refl fits c.args.u.now.derivable))
