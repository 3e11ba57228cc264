use Rattle.std.proofs.Common.{◌≡◌, refl, sym, ◌∙◌}
use Rattle.nj_formula.specs.Statement.{conj}
use Rattle.nj_formula.specs.Meaning.{meaning}
use Rattle.nj_kernel.specs.Theorem.{shown}
use Rattle.nj_kernel.specs.Nj as Nj
use Rattle.nj_kernel.proofs.SetsLemmas.{Lists-same, Lists-either}
use Rattle.nj_kernel.proofs.DeriveLemmas.{along, by_two, paired}
use Rattle.nj_kernel.proofs.rules.conj_i.Goals as goal

pub joined-requires-clause-rule : goal.joined-requires-clause-rule
joined-requires-clause-rule c = λ s listed.
    let says : meaning c.in_ok-concl.concl ≡ conj (shown c.args.t.now) (shown c.args.u.now) = c.in_ok-concl.ensures ∙ paired conj c.concl.ensures c.concl-2.ensures in
    let all = Lists-either _ _ _ listed (Lists-same c.hyps.ensures.value) (Lists-same c.hyps-2.ensures.value) in
    along refl (sym says) (by_two (Nj.conj_i all) c.args.t.now.derivable c.args.u.now.derivable)
