use Rattle.std.proofs.Common.{rules, ◌≡◌, ap, refl, sym, ◌∙◌}
use Rattle.nj_formula.specs.Statement.{implies}
use Rattle.nj_formula.specs.Meaning.{meaning}
use Rattle.nj_formula.proofs.KnownMeaning.{meaning-Implies}
use Rattle.nj_kernel.specs.Theorem.{shown}
use Rattle.nj_kernel.specs.Nj as Nj
use Rattle.nj_kernel.proofs.SetsLemmas.{Lists-same, Lists-either}
use Rattle.nj_kernel.proofs.DeriveLemmas.{along, by_two}
use Rattle.nj_kernel.proofs.rules.imp_e.Goals as goal

pub joined_copied-requires-clause-rule : goal.joined_copied-requires-clause-rule
joined_copied-requires-clause-rule c = λ s listed.
    let is : shown c.args.t.now ≡ implies (meaning c.in-Implies.a) (meaning c.in-Implies.b) = sym c.concl.ensures ∙ (ap meaning c.in-Implies.is ∙ meaning-Implies _ _) in
    let fits : shown c.args.u.now ≡ meaning c.in-Implies.a = search rules in
    let all = Lists-either _ _ _ listed (Lists-same c.hyps.ensures.value) (Lists-same c.hyps-in-Implies.ensures.value) in
    along refl (ap meaning (sym c.get-in-Implies.ensures)) (by_two (Nj.imp_e all) (along refl is c.args.t.now.derivable) (along refl fits c.args.u.now.derivable))
