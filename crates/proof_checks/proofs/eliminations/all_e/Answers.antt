use Rattle.std.proofs.Common.{rules}
use Rattle.proof_checks.proofs.RowLemmas.{all_e_refused}
use Rattle.proof_checks.proofs.eliminations.all_e.Goals as goal

pub returns-else-fits : goal.returns-else-fits
returns-else-fits c =
    all_e_refused c.args.quoted.now c.args.s.now c.args.t.now c.args.goal.now c.in-All.field-0 c.in-All.body c.in-All.is (search rules)
    c.in_ok-fits-in-All.fits c.misfit.result (search rules) (search rules) c.misfit.ensures
