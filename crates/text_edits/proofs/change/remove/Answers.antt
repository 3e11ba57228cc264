use Rattle.std.proofs.Common.{◌≡◌, ◌+◌, ◌-◌, arith}
use Rattle.text_edits.proofs.EditLemmas.{taken_upto, same-faults}
use Rattle.text_edits.proofs.change.remove.Goals as goal

pub returns-in-Ok-clause-applied : goal.returns-in-Ok-clause-applied
returns-in-Ok-clause-applied c =
    let stands = c.in-Ok.ensures.stands in
    let upto : c.args.start + (c.in-Ok.stop - c.args.start) ≡ c.in-Ok.stop = omega (arith, stands.0) in
    rw (c.remove.ensures, upto) (taken_upto c.args.start c.in-Ok.stop c.args.removed.now c.args.text.now stands.0 stands.1 stands.2)

pub returns-in-Err-clause-out_of_range : goal.returns-in-Err-clause-out_of_range
returns-in-Err-clause-out_of_range c at len = same-faults (c.in-Err.ensures.out_of_range at len)

pub returns-in-Err-clause-differs : goal.returns-in-Err-clause-differs
returns-in-Err-clause-differs c at = same-faults (c.in-Err.ensures.differs at)
