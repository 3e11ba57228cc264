use Rattle.std.proofs.Common.{rules}
use Rattle.proof_checks.proofs.RowLemmas.{ex_e_row}
use Rattle.proof_checks.proofs.eliminations.ex_e.Goals as goal

pub returns-in_ok-chosen-in-Exists : goal.returns-in_ok-chosen-in-Exists
returns-in_ok-chosen-in-Exists c =
    ex_e_row c.args.quoted.now c.args.x.now c.args.h.now c.args.t.now c.args.u.now c.args.goal.now c.in-Exists.field-0 c.in-Exists.body
    c.in_ok-chosen-in-Exists.field-0 c.in-Exists.is (search rules)
