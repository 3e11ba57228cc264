use Rattle.std.proofs.lemmas.List.{append-nil}
use Rattle.text_edits.proofs.EditLemmas.{taken_upto, same-faults}
use Rattle.text_edits.proofs.new_text.removed.Goals as goal

pub returns-in_ok-replaced-in-Ok-clause-applied : goal.returns-in_ok-replaced-in-Ok-clause-applied
returns-in_ok-replaced-in-Ok-clause-applied c =
    let stands = c.in-Ok.ensures.stands in
    rw (c.in_ok-replaced-in-Ok.ensures, append-nil) (taken_upto c.args.start c.in-Ok.stop c.args.taken.now c.args.text.now stands.0 stands.1 stands.2)

pub returns-in-Err-clause-out_of_range : goal.returns-in-Err-clause-out_of_range
returns-in-Err-clause-out_of_range c at len = same-faults (c.in-Err.ensures.out_of_range at len)

pub returns-in-Err-clause-differs : goal.returns-in-Err-clause-differs
returns-in-Err-clause-differs c at = same-faults (c.in-Err.ensures.differs at)
