use Rattle.std.proofs.Common.{rules}
use Rattle.proof_checks.proofs.RowLemmas.{all_i_row}
use Rattle.proof_checks.proofs.introductions.all_i.Goals as goal

pub returns-in_ok-for_any-in-All : goal.returns-in_ok-for_any-in-All
returns-in_ok-for_any-in-All c =
    all_i_row c.args.x.now c.args.t.now c.args.goal.now c.in-All.field-0 c.in-All.body c.in_ok-for_any-in-All.field-0 c.in-All.is (search rules)
