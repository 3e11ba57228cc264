use Rattle.std.proofs.Common.{sym, ◌∙◌}
use Rattle.proof_state.proofs.KnownDescribed.{one_description}
use Rattle.proof_state.proofs.laws.one_description.Goals as goal

pub returns-clause-some : goal.returns-clause-some
returns-clause-some c levels = let one = one_description levels in (one.0, one.1)

pub returns-clause-no_other : goal.returns-clause-no_other
returns-clause-no_other c levels text other is is_too =
    let one = one_description levels in sym (one.2 text is) ∙ one.2 other is_too
