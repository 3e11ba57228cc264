use Rattle.std.proofs.Common.{rules}
use Rattle.proof_checks.proofs.RowLemmas.{ex_i_row}
use Rattle.proof_checks.proofs.introductions.ex_i.Goals as goal

pub returns-in_ok-for_some-in-Exists : goal.returns-in_ok-for_some-in-Exists
returns-in_ok-for_some-in-Exists c =
    ex_i_row c.args.s.now c.args.t.now c.args.goal.now c.in-Exists.field-0 c.in-Exists.body c.in_ok-for_some-in-Exists.field-0 c.in-Exists.is (search rules) (search rules)
