use Rattle.std.proofs.Common.{◌≡◌, Err, rules}
use Rattle.nj_formula.specs.Meaning.{meaning}
use Rattle.proof_checks.specs.Checks.{by_three}
use Rattle.proof_checks.specs.Scopes.{remaining}
use Rattle.proof_checks.proofs.JoinLemmas.{join_halts, join_returns, over_halts, over_returns}
use Rattle.proof_checks.proofs.joins.join_three.Goals as goal

pub returns-in_err-v-clause-gives : goal.returns-in_err-v-clause-gives
returns-in_err-v-clause-gives c =
    let out : c.from_residual.result ≡ Err c.in_err-v.field-0.0 = search rules in
    λ a b l m found told. join_halts c.args.r.now.own found (by_three (remaining c.args.p.now.own a) (remaining c.args.q.now.own b))
    (meaning c.args.r.now.goal) (meaning c.args.goal.now) c.args.last c.from_residual.result c.in_err-v.field-0.0 c.in_err-v.was out told

pub returns-clause-gives : goal.returns-clause-gives
returns-clause-gives c =
    λ a b l m found told. join_returns c.args.r.now.own found (by_three (remaining c.args.p.now.own a) (remaining c.args.q.now.own b))
    (meaning c.args.r.now.goal) (meaning c.args.goal.now) c.args.last c.in_ok-v.v c.by_three.result c.in_ok-v.was told (λ d n. c.by_three.ensures.gives a b d l m n)

pub returns-in_err-v-clause-hands : goal.returns-in_err-v-clause-hands
returns-in_err-v-clause-hands c =
    let out : c.from_residual.result ≡ Err c.in_err-v.field-0.0 = search rules in
    over_halts c.args.last c.from_residual.result c.in_err-v.field-0.0 c.in_err-v.was out

pub returns-clause-hands : goal.returns-clause-hands
returns-clause-hands c = over_returns c.args.last c.in_ok-v.v c.by_three.result c.in_ok-v.was c.by_three.ensures.runs
