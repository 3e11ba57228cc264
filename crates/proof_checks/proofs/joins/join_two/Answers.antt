use Rattle.std.proofs.Common.{◌≡◌, Err, rules}
use Rattle.nj_formula.specs.Meaning.{meaning}
use Rattle.proof_checks.specs.Checks.{by_two}
use Rattle.proof_checks.specs.Scopes.{remaining}
use Rattle.proof_checks.proofs.JoinLemmas.{join_halts, join_returns, over_halts, over_returns}
use Rattle.proof_checks.proofs.joins.join_two.Goals as goal

pub returns-in_err-u-clause-gives : goal.returns-in_err-u-clause-gives
returns-in_err-u-clause-gives c =
    let out : c.from_residual.result ≡ Err c.in_err-u.field-0.0 = search rules in
    λ a l found told. join_halts c.args.q.now.own found (by_two c.args.rule.now (meaning c.args.p.now.goal) (meaning c.args.goal.now) (remaining c.args.p.now.own a))
    (meaning c.args.q.now.goal) (meaning c.args.goal.now) c.args.last c.from_residual.result c.in_err-u.field-0.0 c.in_err-u.was out told

pub returns-clause-gives : goal.returns-clause-gives
returns-clause-gives c =
    λ a l found told. join_returns c.args.q.now.own found (by_two c.args.rule.now (meaning c.args.p.now.goal) (meaning c.args.goal.now) (remaining c.args.p.now.own a))
    (meaning c.args.q.now.goal) (meaning c.args.goal.now) c.args.last c.in_ok-u.u c.by_two.result c.in_ok-u.was told (λ b m. c.by_two.ensures.gives a b l m)

pub returns-in_err-u-clause-hands : goal.returns-in_err-u-clause-hands
returns-in_err-u-clause-hands c =
    let out : c.from_residual.result ≡ Err c.in_err-u.field-0.0 = search rules in
    over_halts c.args.last c.from_residual.result c.in_err-u.field-0.0 c.in_err-u.was out

pub returns-clause-hands : goal.returns-clause-hands
returns-clause-hands c = over_returns c.args.last c.in_ok-u.u c.by_two.result c.in_ok-u.was c.by_two.ensures.runs
