-- At the end of the pass what is kept is the list without the statement.
use Rattle.std.proofs.Common.{arith, ◌+◌, map, drop, IsTrue, subst}
use Rattle.std.proofs.lemmas.Grind.{common_steps}
use Rattle.nj_formula.specs.Meaning.{meaning}
use Rattle.nj_kernel.specs.Sets.{members, Lists, ◌∖◌}
use Rattle.nj_kernel.specs.Order.{rises}
use Rattle.nj_kernel.proofs.RisesLemmas.{removed_lists, removed_rises, removed_tested, whole}
use Rattle.nj_kernel.proofs.hyps.others.Goals as goal

pub loop-member-preserved : goal.loop-member-preserved
loop-member-preserved c =
    let rest = map meaning (drop (c.loop-member.member-index + 1) c.args.s.now) in
    grind (arith, common_steps, removed_tested c.same.result (meaning c.args.dropped.now) (meaning c.formula.result.now) rest c.same.ensures)

pub returns-clause-listed : goal.returns-clause-listed
returns-clause-listed c =
    subst (λ u. Lists u (members (map meaning c.args.s.now) ∖ meaning c.args.dropped.now))
    (whole (meaning c.args.dropped.now) c.loop-member.kept c.args.s.now c.loop-member.member-index (omega arith) c.loop-member.invariant)
    (removed_lists (meaning c.args.dropped.now) (map meaning c.args.s.now))

pub returns-clause-ordered : goal.returns-clause-ordered
returns-clause-ordered c =
    subst (λ u. IsTrue (rises u))
    (whole (meaning c.args.dropped.now) c.loop-member.kept c.args.s.now c.loop-member.member-index (omega arith) c.loop-member.invariant)
    (removed_rises (meaning c.args.dropped.now) (map meaning c.args.s.now) c.requires)
