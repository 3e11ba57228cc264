use Rattle.std.proofs.Common.{◌≡◌, Err, rules}
use Rattle.nj_formula.specs.Meaning.{meaning}
use Rattle.proof_checks.specs.Checks.{by_one}
use Rattle.proof_checks.proofs.JoinLemmas.{join_halts, join_returns, over_halts, over_returns}
use Rattle.proof_checks.proofs.joins.join_one.Goals as goal

pub returns-in_err-t-clause-gives : goal.returns-in_err-t-clause-gives
returns-in_err-t-clause-gives c =
    let out : c.from_residual.result ≡ Err c.in_err-t.field-0.0 = search rules in
    λ found told. join_halts c.args.p.now.own found (by_one c.args.rule.now (meaning c.args.goal.now)) (meaning c.args.p.now.goal) (meaning c.args.goal.now)
    c.args.last c.from_residual.result c.in_err-t.field-0.0 c.in_err-t.was out told

pub returns-clause-gives : goal.returns-clause-gives
returns-clause-gives c =
    λ found told. join_returns c.args.p.now.own found (by_one c.args.rule.now (meaning c.args.goal.now)) (meaning c.args.p.now.goal) (meaning c.args.goal.now)
    c.args.last c.in_ok-t.t c.by_one.result c.in_ok-t.was told c.by_one.ensures.gives

pub returns-in_err-t-clause-hands : goal.returns-in_err-t-clause-hands
returns-in_err-t-clause-hands c =
    let out : c.from_residual.result ≡ Err c.in_err-t.field-0.0 = search rules in
    over_halts c.args.last c.from_residual.result c.in_err-t.field-0.0 c.in_err-t.was out

pub returns-clause-hands : goal.returns-clause-hands
returns-clause-hands c = over_returns c.args.last c.in_ok-t.t c.by_one.result c.in_ok-t.was c.by_one.ensures.runs
