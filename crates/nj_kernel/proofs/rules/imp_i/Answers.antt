use Rattle.std.proofs.Common.{rules, ◌≡◌, map, refl, sym, ◌∙◌}
use Rattle.nj_formula.specs.Statement.{implies}
use Rattle.nj_formula.specs.Meaning.{meaning}
use Rattle.nj_kernel.specs.Sets.{members, Lists, ◌∖◌}
use Rattle.nj_kernel.specs.Theorem.{assumed, shown}
use Rattle.nj_kernel.specs.Nj as Nj
use Rattle.nj_kernel.proofs.DeriveLemmas.{along, by_one, paired}
use Rattle.nj_kernel.proofs.rules.imp_i.Goals as goal

pub derived-requires-clause-rule : goal.derived-requires-clause-rule
derived-requires-clause-rule c =
    let says : meaning c.in_ok-concl.concl ≡ implies (meaning c.args.a.now) (shown c.args.t.now) = c.in_ok-concl.ensures ∙ paired implies refl c.concl.ensures in
    let rest : Lists (map meaning c.in_ok-remaining.remaining) (members (assumed c.args.t.now) ∖ meaning c.args.a.now) = search rules in
    along refl (sym says) (by_one (Nj.imp_i rest) c.args.t.now.derivable)
